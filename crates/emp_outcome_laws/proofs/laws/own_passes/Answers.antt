use Rattle.emp_outcome_laws.proofs.Owning as Owning
use Rattle.emp_outcome_laws.proofs.laws.own_passes.Goals as goal

pub returns : goal.returns
returns c = Owning.own_passes

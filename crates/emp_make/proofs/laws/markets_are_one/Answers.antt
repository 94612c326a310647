use Rattle.emp_make.proofs.Ones.{one_model, one_annot}
use Rattle.emp_make.proofs.laws.markets_are_one.Goals as goal

pub returns : goal.returns
returns c = λ seed firms m n a b h k. (one_model seed firms m n h.model k.model, one_annot firms a b h.annot k.annot)

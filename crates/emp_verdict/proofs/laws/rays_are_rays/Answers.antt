use Rattle.emp_verdict.proofs.Rays as Law
use Rattle.emp_verdict.proofs.Meaning.{file_is_game}
use Rattle.emp_verdict.proofs.laws.rays_are_rays.Goals as goal

pub returns : goal.returns
returns c = Law.rays_are_rays file_is_game

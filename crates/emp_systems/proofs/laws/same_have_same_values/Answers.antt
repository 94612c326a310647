use Rattle.emp_systems.proofs.Same.{affine_same, quadratic_same, meets_same}
use Rattle.emp_systems.proofs.laws.same_have_same_values.Goals as goal

pub returns : goal.returns
returns c = record { affine = affine_same; quadratic = quadratic_same; meets = meets_same }

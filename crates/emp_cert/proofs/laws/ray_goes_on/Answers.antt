use Rattle.emp_cert.proofs.Rays.{some_along, ray_solves, ray_falls}
use Rattle.emp_cert.proofs.laws.ray_goes_on.Goals as goal

pub returns : goal.returns
returns c = record { some = some_along; solves = ray_solves; falls = ray_falls }

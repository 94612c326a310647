-- What bounds are held against.
use Rattle.emp_num.specs.Ratio.{Ratio, ratio}
use Rattle.emp_check.specs.declared.outcome.Named.{Named}
use Rattle.emp_check.specs.declared.outcome.Named.TheVariants.{Nothing, Value, TooWide}

-- the objective's value at the point of a certificate; none where no point is named to be best
pub data Level : Type 0 where
  nothing : Level
  value : Ratio → Level
  too_wide : Level

abbrev pub level_of : Named → Level
level_of Nothing = nothing
level_of (Value v) = value (ratio v.num v.den)
level_of TooWide = too_wide

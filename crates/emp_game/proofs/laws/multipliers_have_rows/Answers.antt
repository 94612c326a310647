use Rattle.emp_game.specs.Conditions.{derivatives}
use Rattle.emp_game.proofs.Level as Level
use Rattle.emp_game.proofs.laws.multipliers_have_rows.Goals as goal

pub returns : goal.returns
returns c = λ ranges pl d xs us kept p m o. (Level.own_numbers pl d xs us pl.own (derivatives pl), Level.multipliers_have_rows ranges pl d xs us kept p m o)

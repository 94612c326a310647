use Rattle.emp_num.proofs.SamePoints.{lowest_are_fractions, lowest_of_same}
use Rattle.emp_num.proofs.laws.lowest_are_fractions.Goals as goal

pub returns : goal.returns
returns c = record { fractions = lowest_are_fractions; of_same = lowest_of_same }

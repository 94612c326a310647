use Rattle.emp_subst.proofs.Turning.{part_count}
use Rattle.emp_subst.proofs.Keeping.{rising_keeps, few_keep, own_keeps, functions_keep, duals_keep, leader_keeps}
use Rattle.emp_subst.proofs.SameRows.{same_rules}
use Rattle.emp_subst.proofs.Apart.{apart_keeps}
use Rattle.emp_subst.proofs.laws.problems_keep.Goals as goal

pub returns : goal.returns
returns c =
    λ m a pr class problem. record {
      rising = rising_keeps m a pr problem;
      few = few_keep m a pr problem;
      blocks = part_count m a pr problem;
      apart = apart_keeps m a pr class problem;
      own = own_keeps m a pr class problem;
      functions = functions_keep m a pr problem;
      duals = duals_keep m a pr class problem;
      leader = leader_keeps m a pr problem;
      rules = λ r s h k e. same_rules m a pr r s class problem h k e;
    }

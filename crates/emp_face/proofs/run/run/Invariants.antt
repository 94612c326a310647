use Rattle.std.proofs.Common.{◌≡◌}
use Rattle.emp_dict.specs.Dicts.{dictionary_of}
use Rattle.emp_step.specs.Steps.{repeated}
use Rattle.emp_face.specs.Budgets.{units_left}
use Rattle.emp_face.specs.Runs.{looks}
use Rattle.emp_face.proofs.Goings.{Going}
use Rattle.emp_face.proofs.run.run.Given as goal

abbrev pub invariant-loop-outcome : goal.invariant-loop-outcome
invariant-loop-outcome l = record {
  same : repeated (looks l.task) (units_left l.budget) (dictionary_of l.dict) ≡ repeated (looks l.fn.task) (units_left l.fn.budget) (dictionary_of l.fn.dict);
  going : Going l.task (dictionary_of l.dict);
  limit : l.budget.limit ≡ l.fn.budget.limit;
  marks : (dictionary_of l.dict).marks ≡ (dictionary_of l.fn.dict).marks;
}

abbrev pub decreases-loop-outcome : goal.decreases-loop-outcome
decreases-loop-outcome l = units_left l.budget

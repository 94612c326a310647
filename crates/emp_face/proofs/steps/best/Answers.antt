use Rattle.emp_dict.specs.Dicts.{dictionary_of}
use Rattle.emp_step.specs.Steps.{bested}
use Rattle.emp_step.proofs.Whole.{best_level}
use Rattle.emp_face.specs.Budgets.{units_left}
use Rattle.emp_face.proofs.Goings.{step_level}
use Rattle.emp_face.proofs.steps.best.Goals as goal

pub returns-clause-level : goal.returns-clause-level
returns-clause-level c =
    let d = dictionary_of c.args.dict.now in
    let n = units_left c.args.budget.now in
    step_level (bested n d) (dictionary_of c.run.new.dict) (units_left c.run.new.budget) c.run.result c.run.ensures.step (best_level n d c.args.dict.now.sound c.requires.level c.requires.objective).1

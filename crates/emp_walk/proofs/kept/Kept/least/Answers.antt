use Rattle.std.proofs.Common.{subst, sym}
use Rattle.emp_dict.specs.declared.dict.Dict.{Dict}
use Rattle.emp_dict.specs.Dicts.{dictionary_of}
use Rattle.emp_face.specs.Budgets.{units_left}
use Rattle.emp_step.specs.Laws.{HasObjective}
use Rattle.emp_step.specs.Steps.{StepGives, bested}
use Rattle.emp_decide.proofs.Decides.{has_objective}
use Rattle.emp_walk.proofs.Asking.{best_gave}
use Rattle.emp_walk.proofs.kept.Kept.least.Goals as goal

pub best-requires-clause-objective : goal.best-requires-clause-objective
best-requires-clause-objective g c =
    let o = c.requires.objective in
    subst (λ (x : Dict). HasObjective (dictionary_of x)) (sym c.self.view_is) (has_objective c.args.system.now (dictionary_of c.args.self.now) o.0 c.requires.at.dictionary o.1)

pub returns-clause-fits : goal.returns-clause-fits
returns-clause-fits g c =
    let o = c.requires.objective in
    let step = subst (λ (x : Dict). StepGives (bested (units_left c.args.budget.now) (dictionary_of x)) (dictionary_of c.best.new.dict) (units_left c.best.new.budget) c.best.result) c.self.view_is c.best.ensures.step in
    best_gave c.args.system.now (dictionary_of c.args.self.now) (dictionary_of c.best.new.dict) (units_left c.args.budget.now) (units_left c.best.new.budget) c.best.result c.requires.at (has_objective c.args.system.now (dictionary_of c.args.self.now) o.0 c.requires.at.dictionary o.1) step

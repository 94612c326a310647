use Rattle.std.proofs.Common.{subst}
use Rattle.emp_dict.specs.declared.dict.Dict.{Dict}
use Rattle.emp_dict.specs.Dicts.{dictionary_of}
use Rattle.emp_face.specs.Budgets.{units_left}
use Rattle.emp_step.specs.Steps.{StepGives, fixed, raised}
use Rattle.emp_walk.specs.Fits.{AskFits}
use Rattle.emp_walk.proofs.Asking.{fix_gave, raise_gave}
use Rattle.emp_walk.proofs.kept.Kept.ask.Goals as goal

pub returns-in-Zero-clause-fits : goal.returns-in-Zero-clause-fits
returns-in-Zero-clause-fits g c =
    let d = dictionary_of c.args.self.now in
    let step = subst (λ (x : Dict). StepGives (fixed (units_left c.args.budget.now) c.args.k (dictionary_of x)) (dictionary_of c.fix.new.dict) (units_left c.fix.new.budget) c.fix.result) c.self.view_is c.fix.ensures.step in
    fix_gave c.args.system.now d (dictionary_of c.fix.new.dict) c.args.k (units_left c.args.budget.now) (units_left c.fix.new.budget) c.fix.result c.requires.at (subst (AskFits d c.args.k) c.in-Zero.is c.requires.asks) step

pub returns-in-Nonneg-clause-fits : goal.returns-in-Nonneg-clause-fits
returns-in-Nonneg-clause-fits g c =
    let d = dictionary_of c.args.self.now in
    let step = subst (λ (x : Dict). StepGives (raised (units_left c.args.budget.now) c.args.k (dictionary_of x)) (dictionary_of c.raise.new.dict) (units_left c.raise.new.budget) c.raise.result) c.self.view_is c.raise.ensures.step in
    raise_gave c.args.system.now d (dictionary_of c.raise.new.dict) c.args.k (units_left c.args.budget.now) (units_left c.raise.new.budget) c.raise.result c.requires.at (subst (AskFits d c.args.k) c.in-Nonneg.is c.requires.asks) step

use Rattle.std.proofs.Common.{◌≡◌, ap, refl, subst, arith, ◌∙◌, Err, Fits, w64, rules}
use Rattle.emp_dict.specs.Dicts.{dictionary_of}
use Rattle.emp_step.specs.Steps.{StepGives, stepped, too_wide}
use Rattle.emp_face.specs.Budgets.{units_left}
use Rattle.emp_search.specs.Search.{worked}
use Rattle.emp_walk.specs.Fits.{asks_of}
use Rattle.emp_walk.proofs.Opening.{open_done, open_none, open_spent, open_wide, nodes_below}
use Rattle.emp_walk.proofs.course.Course.open.Goals as goal

pub returns-in_default : goal.returns-in_default
returns-in_default g c = let t = c.in_default.ensures in (open_none c.args.system.now c.args.self.now t.0, t.2)

pub overflow_add-self : goal.overflow_add-self
overflow_add-self g c =
    let t = c.in-Ok.ensures in
    let u = t.1 in
    let n = c.requires.place.nodes in
    let f : Fits w64 c.take.new.self.used = search rules in
    omega arith

pub overflow_sub-result : goal.overflow_sub-result
overflow_sub-result g c =
    let t = c.in-Ok.ensures in
    let s = c.args.system.now in
    let w = worked c.args.system.now (asks_of c.args.system.now c.args.self.now.asks) (units_left c.take.new.self) (dictionary_of c.args.self.now.dict) in
    let step : worked c.args.system.now (asks_of c.args.system.now c.args.self.now.asks) (units_left c.take.new.self) (dictionary_of c.args.self.now.dict) ≡ stepped too_wide (dictionary_of c.work.new.dict) (units_left c.work.new.budget) = subst (λ x. StepGives w (dictionary_of c.work.new.dict) (units_left c.work.new.budget) (Err x)) c.in-Err-Wide.field-0-is c.in-Err-Wide.ensures.step in
    nodes_below s c.args.self.now c.take.new.self t.1 t.2 c.work.new.budget (units_left c.work.new.budget) c.requires c.work.ensures.limit (ap (λ w. w.left) step) refl

pub returns-in-Ok-work : goal.returns-in-Ok-work
returns-in-Ok-work g c =
    let t = c.in-Ok.ensures in
    open_done c.args.system.now c.args.self.now c.take.new.self t.1 t.2 c.work.new.budget c.work.new.dict c.in-Ok-work.outcome c.requires c.work.ensures.limit c.in-Ok-work.ensures.step c.in-Ok-work.ensures.fits

pub returns-in-Err-Wide : goal.returns-in-Err-Wide
returns-in-Err-Wide g c =
    let t = c.in-Ok.ensures in
    let w = worked c.args.system.now (asks_of c.args.system.now c.args.self.now.asks) (units_left c.take.new.self) (dictionary_of c.args.self.now.dict) in
    open_wide c.args.system.now c.args.self.now c.take.new.self t.1 t.2 c.work.new.budget (dictionary_of c.work.new.dict) c.work.ensures.limit (subst (λ x. StepGives w (dictionary_of c.work.new.dict) (units_left c.work.new.budget) (Err x)) c.in-Err-Wide.field-0-is c.in-Err-Wide.ensures.step)

pub returns-in-Err-Spent : goal.returns-in-Err-Spent
returns-in-Err-Spent g c =
    let t = c.in-Ok.ensures in
    let w = worked c.args.system.now (asks_of c.args.system.now c.args.self.now.asks) (units_left c.take.new.self) (dictionary_of c.args.self.now.dict) in
    (open_spent c.args.system.now c.args.self.now c.take.new.self t.1 t.2 (dictionary_of c.work.new.dict) (units_left c.work.new.budget) (subst (λ x. StepGives w (dictionary_of c.work.new.dict) (units_left c.work.new.budget) (Err x)) c.in-Err-Spent.field-0-is c.in-Err-Spent.ensures.step), c.work.ensures.limit ∙ t.2)

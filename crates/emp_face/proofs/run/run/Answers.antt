use Rattle.std.proofs.Common.{◌≡◌, sym, ap, ◌∙◌}
use Rattle.emp_dict.specs.Dicts.{dictionary_of}
use Rattle.emp_step.specs.Steps.{turn, repeated}
use Rattle.emp_step.proofs.Repeats.{repeated_over, repeated_more}
use Rattle.emp_face.specs.Budgets.{units_left}
use Rattle.emp_face.specs.Runs.{look_of, looks}
use Rattle.emp_face.proofs.Goings.{looked_fits, going_on, marks_on}
use Rattle.emp_face.proofs.run.run.Goals as goal

pub returns-in-Over-clause-step : goal.returns-in-Over-clause-step
returns-in-Over-clause-step c = sym c.loop-outcome.invariant.same ∙ repeated_over (looks c.args.task) (units_left c.loop-outcome.budget) (dictionary_of c.loop-outcome.dict) c.in-Over.outcome (sym c.look.ensures ∙ ap look_of c.in-Over.is)

pub turn-requires-clause-row : goal.turn-requires-clause-row
turn-requires-clause-row c = (looked_fits c.args.task (dictionary_of c.loop-outcome.dict) c.in-Turn.row c.in-Turn.column c.look.result c.loop-outcome.invariant.going c.look.ensures c.in-Turn.is).row

pub turn-requires-clause-column : goal.turn-requires-clause-column
turn-requires-clause-column c = (looked_fits c.args.task (dictionary_of c.loop-outcome.dict) c.in-Turn.row c.in-Turn.column c.look.result c.loop-outcome.invariant.going c.look.ensures c.in-Turn.is).column

pub turn-requires-clause-quantity : goal.turn-requires-clause-quantity
turn-requires-clause-quantity c = (looked_fits c.args.task (dictionary_of c.loop-outcome.dict) c.in-Turn.row c.in-Turn.column c.look.result c.loop-outcome.invariant.going c.look.ensures c.in-Turn.is).quantity

pub turn-requires-clause-nonzero : goal.turn-requires-clause-nonzero
turn-requires-clause-nonzero c = (looked_fits c.args.task (dictionary_of c.loop-outcome.dict) c.in-Turn.row c.in-Turn.column c.look.result c.loop-outcome.invariant.going c.look.ensures c.in-Turn.is).nonzero

pub loop-outcome-preserved : goal.loop-outcome-preserved
loop-outcome-preserved c =
    let t = c.args.task in
    let d = dictionary_of c.loop-outcome.dict in
    let e = dictionary_of c.turn.new.dict in
    let r = c.in-Turn.row in
    let j = c.in-Turn.column in
    let n = units_left c.turn.new.budget in
    let h : looks c.args.task (dictionary_of c.loop-outcome.dict) ≡ turn c.in-Turn.row c.in-Turn.column = sym c.look.ensures ∙ ap look_of c.in-Turn.is in
    let g = c.in_ok-turn-in-Turn.ensures.turn in
    let i = c.loop-outcome.invariant in
    record {
      same = sym (repeated_more (looks t) n d e r j h g.0) ∙ (sym (ap (λ m. repeated (looks t) m d) g.1) ∙ i.same);
      going = going_on t d e r j i.going h g.0;
      limit = c.in_ok-turn-in-Turn.ensures.limit ∙ i.limit;
      marks = marks_on d e r j g.0 ∙ i.marks;
    }

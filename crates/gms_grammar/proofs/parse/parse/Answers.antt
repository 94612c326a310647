use Rattle.std.proofs.Common.{ap, sym, subst, reverse, ◌∙◌}
use Rattle.gms_grammar.specs.Machine.{step, is_over, Steps}
use Rattle.gms_grammar.proofs.Places.{reached_step, lexeme_refused, end_accepted, end_refused}
use Rattle.gms_grammar.proofs.parse.parse.Goals as goal

pub loop-t-preserved : goal.loop-t-preserved
loop-t-preserved c =
    reached_step c.args.kind c.args.lexemes.now c.loop-t.t-index (reverse c.loop-t.stack.items) (reverse c.advance.new.stack.items) c.loop-t.out.items c.advance.new.out.items c.t-item.result c.loop-t-test.true c.t-item.is c.loop-t.invariant
    (subst (λ b. Steps (step (reverse c.loop-t.stack.items) c.loop-t.out.items c.t-item.result) (reverse c.advance.new.stack.items) c.advance.new.out.items b) c.if-not-branch.false c.in_ok-advance.ensures)

pub returns-then-not-branch : goal.returns-then-not-branch
returns-then-not-branch c =
    lexeme_refused c.args.kind c.args.lexemes.now c.args.end c.loop-t.t-index (reverse c.loop-t.stack.items) c.loop-t.out.items c.t-item.result c.loop-t-test.true c.t-item.is c.loop-t.invariant
    (subst (λ b. Steps (step (reverse c.loop-t.stack.items) c.loop-t.out.items c.t-item.result) (reverse c.advance.new.stack.items) c.advance.new.out.items b) c.if-not-branch.true c.in_ok-advance.ensures)

pub returns-then-is_over : goal.returns-then-is_over
returns-then-is_over c =
    end_accepted c.args.kind c.args.lexemes.now c.loop-t.t-index (reverse c.loop-t.stack.items) c.loop-t.out.items c.loop-t-test.false c.loop-t.invariant
    (ap (λ xs. is_over (reverse xs)) (sym c.as_slice.ensures.value) ∙ (sym c.is_over.ensures ∙ c.if-is_over.true))

pub returns : goal.returns
returns c =
    end_refused c.args.kind c.args.lexemes.now c.args.end c.loop-t.t-index (reverse c.loop-t.stack.items) c.loop-t.out.items c.loop-t-test.false c.loop-t.invariant
    (ap (λ xs. is_over (reverse xs)) (sym c.as_slice.ensures.value) ∙ (sym c.is_over.ensures ∙ c.if-is_over.false))

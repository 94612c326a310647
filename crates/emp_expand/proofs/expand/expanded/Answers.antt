use Rattle.std.proofs.Common.{reverse, subst, sym, refl, arith}
use Rattle.std.proofs.lemmas.List.{length-reverse}
use Rattle.emp_expand.specs.Expanding.{HasOperands}
use Rattle.emp_expand.proofs.Stacks.{expanded_operands, expanded_fault, expanded_more}
use Rattle.emp_expand.proofs.expand.expanded.Goals as goal

pub applied-requires : goal.applied-requires
applied-requires c =
    subst (λ h. HasOperands h c.index-nodes-at.result) (length-reverse c.loop-at.stack.items)
    (expanded_operands (reverse c.loop-at.stack.items) c.args.nodes.now c.loop-at.at c.index-nodes-at.result c.loop-at.invariant (omega arith) (sym c.index-nodes-at.is))

pub returns-in-Err : goal.returns-in-Err
returns-in-Err c =
    expanded_fault (reverse c.loop-at.stack.items) (reverse c.applied.new.stack.items) c.args.nodes.now c.loop-at.at c.index-nodes-at.result c.in-Err.fault (record { at = c.loop-at.at; fault = c.in-Err.fault }) c.loop-at.invariant (omega arith) (sym c.index-nodes-at.is) c.in-Err.ensures refl refl

pub loop-at-preserved : goal.loop-at-preserved
loop-at-preserved c =
    expanded_more (reverse c.loop-at.stack.items) (reverse c.applied.new.stack.items) (reverse c.laid.new.stack.items) c.args.nodes.now c.loop-at.at c.index-nodes-at.result c.in-Ok.value c.loop-at.invariant (omega arith) (sym c.index-nodes-at.is) c.in-Ok.ensures c.in-Ok-laid.ensures

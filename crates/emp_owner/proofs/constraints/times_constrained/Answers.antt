use Rattle.std.proofs.Common.{◌+◌, cond, arith, sym, ap, ap₂, ◌∙◌}
use Rattle.emp_owner.proofs.Defining.{constrains_at, constrained_more}
use Rattle.emp_owner.proofs.constraints.times_constrained.Goals as goal

pub loop-at-preserved : goal.loop-at-preserved
loop-at-preserved c =
    let a = c.args.annot.now in
    let k = c.loop-at.at in
    let e = c.args.e.at in
    record {
      times = λ m are.
          let is = c.constrains.ensures ∙ constrains_at m a c.args.defined.now k c.get.result.now c.get-in-loop-at.result.now e are (omega arith) c.get.ensures c.get-in-loop-at.ensures in
          ap₂ (λ x y. x + y) (c.loop-at.invariant.times m are) (c.one_if-times.ensures.value ∙ ap (λ b. cond b 1 0) is) ∙ sym (constrained_more m a e k);
      few = omega (arith, c.loop-at.invariant.few, c.one_if-times.ensures.most);
    }

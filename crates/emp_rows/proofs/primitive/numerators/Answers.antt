use Rattle.std.proofs.Common.{◌≡◌, ◌+◌, ◌++◌, [], ◌∷◌, ℤ, List, Some, length, get_or, drop, arith, rules, subst, sym, ap, ◌∙◌, length-append}
use mir.Syntax.{w128}
use mir.Val.{SFits}
use Rattle.std.specs.List.{All}
use Rattle.std.proofs.lemmas.Int.{to_z-of_z}
use Rattle.emp_num.specs.Exact.{IsNarrow}
use Rattle.emp_rows.specs.Primitive.{numerator, numerators}
use Rattle.emp_rows.proofs.Joint.{prefixed, numerators-more, narrow_more}
use Rattle.emp_rows.proofs.primitive.numerators.Goals as goal

pub loop-at-preserved : goal.loop-at-preserved
loop-at-preserved c =
    let fits : SFits w128 c.args.common = c.ranges.common in
    let fits_next : SFits w128 c.in_ok-next.next = search rules in
    let grown : c.push.new.self ≡ c.loop-at.out ++ c.in_ok-next.next ∷ [] = simp to_z-of_z at c.in_ok-push.ensures.ok in
    let value : Some c.in_ok-next.next ≡ numerator c.args.common c.index-cells-at.result = simp to_z-of_z at c.in_ok-next.ensures.value in
    let here : numerator c.args.common (get_or c.args.cells.now c.loop-at.at c.index-cells-at.result) ≡ Some c.in_ok-next.next = ap (numerator c.args.common) (sym c.index-cells-at.is) ∙ sym value in
    let rest : prefixed c.loop-at.out (numerators c.args.common (drop c.loop-at.at c.args.cells.now)) ≡ numerators c.args.common c.args.cells.now = simp to_z-of_z at c.loop-at.invariant.rest in
    let count : length c.loop-at.out ≡ c.loop-at.at = c.loop-at.invariant.count in
    record {
      rest = simp to_z-of_z (subst (λ (o : List ℤ). prefixed o (numerators c.args.common (drop (c.loop-at.at + 1) c.args.cells.now)) ≡ numerators c.args.common c.args.cells.now) (sym grown) (numerators-more c.args.common c.args.cells.now c.loop-at.at c.index-cells-at.result c.loop-at.out c.in_ok-next.next (omega arith) here ∙ rest));
      narrow = subst (λ (o : List ℤ). All IsNarrow o) (sym grown) (narrow_more c.loop-at.out c.in_ok-next.next c.loop-at.invariant.narrow c.in_ok-next.ensures.narrow);
      count = omega (arith, ap length grown, length-append c.loop-at.out (c.in_ok-next.next ∷ []));
    }

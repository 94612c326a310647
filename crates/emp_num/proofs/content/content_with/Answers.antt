use Rattle.std.proofs.Common.{◌≡◌, ◌∙◌, pos, get_or, unsigned_abs, arith, rules, subst}
use mir.Syntax.{w128}
use mir.Val.{SFits}
use Rattle.std.specs.Int.{IsGcd}
use Rattle.std.proofs.lemmas.Int.{to_z-of_z}
use Rattle.emp_num.proofs.Divisors.{content_from-more}
use Rattle.emp_num.proofs.content.content_with.Goals as goal

pub loop-i-preserved : goal.loop-i-preserved
loop-i-preserved c =
    let fits_item : SFits w128 (get_or c.args.row.now c.loop-i.i (pos 0)) = search rules in
    let same : c.unsigned_abs.result ≡ unsigned_abs (get_or c.args.row.now c.loop-i.i (pos 0)) = simp to_z-of_z at c.unsigned_abs.ensures.value in
    let d : IsGcd c.loop-i.total (unsigned_abs (get_or c.args.row.now c.loop-i.i (pos 0))) c.common_divisor-total.result = subst (λ n. IsGcd c.loop-i.total n c.common_divisor-total.result) same c.common_divisor-total.ensures in
    content_from-more c.loop-i.total c.common_divisor-total.result c.args.row.now c.loop-i.i (omega arith) d ∙ c.loop-i.invariant

use Rattle.std.proofs.Common.{◌≡◌, ◌<◌, ◌^◌, ◌∙◌, ap, sym, subst, unsigned_abs}
use mir.Syntax.{w128}
use mir.Val.{SFits}
use Rattle.std.proofs.lemmas.Int.{to_z-of_z}
use Rattle.emp_num.specs.Gcd.{content_from}
use Rattle.emp_rows.proofs.Divided.{content_below}
use Rattle.emp_rows.proofs.affine.divisor_for.Goals as goal

pub returns-else-common-eq0-clause-narrow : goal.returns-else-common-eq0-clause-narrow
returns-else-common-eq0-clause-narrow c =
    let fits : SFits w128 c.args.constant = c.ranges.constant in
    let same : c.unsigned_abs.result ≡ unsigned_abs c.args.constant = simp to_z-of_z at c.unsigned_abs.ensures.value in
    subst (λ m. m < 2 ^ 126) (sym (c.content_with-common.ensures ∙ ap (λ g. content_from g c.args.cells.now) same)) (content_below (unsigned_abs c.args.constant) (2 ^ 126) c.args.cells.now c.requires.constant c.requires.cells)

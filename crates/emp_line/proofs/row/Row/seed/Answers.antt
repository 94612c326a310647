use Rattle.std.proofs.Common.{◌≡◌, ◌∙◌, unsigned_abs, ap, rules, subst₂}
use mir.Syntax.{w128}
use mir.Val.{SFits}
use Rattle.std.specs.Int.{IsGcd}
use Rattle.std.proofs.lemmas.Int.{to_z-of_z}
use Rattle.emp_algebra.specs.Vector.{cell}
use Rattle.emp_num.proofs.Divisors.{gcd_of_is}
use Rattle.emp_line.specs.declared.line.Line.{Line}
use Rattle.emp_line.proofs.row.Row.seed.Goals as goal

pub returns : goal.returns
returns c =
    let fits_a : SFits w128 c.self.inside.denom = search rules in
    let fits_b : SFits w128 c.cell.result = search rules in
    let own : c.unsigned_abs.result ≡ unsigned_abs c.self.inside.denom = simp to_z-of_z at c.unsigned_abs.ensures.value in
    let first : c.unsigned_abs.result ≡ unsigned_abs c.args.self.now.denom = own ∙ ap (λ (x : Line). unsigned_abs x.denom) c.self.view_is in
    let here : c.unsigned_abs-2.result ≡ unsigned_abs c.cell.result = simp to_z-of_z at c.unsigned_abs-2.ensures.value in
    let second : c.unsigned_abs-2.result ≡ unsigned_abs (cell c.args.self.now.cells c.args.column) = here ∙ ap unsigned_abs c.cell.ensures in
    gcd_of_is (unsigned_abs c.args.self.now.denom) (unsigned_abs (cell c.args.self.now.cells c.args.column)) c.count_divisor.result (subst₂ (λ m n. IsGcd m n c.count_divisor.result) first second c.count_divisor.ensures)

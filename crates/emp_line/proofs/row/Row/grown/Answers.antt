use Rattle.std.proofs.Common.{◌≡◌, ◌∙◌, ap, unsigned_abs, rules, subst}
use mir.Syntax.{w128}
use mir.Val.{SFits}
use Rattle.std.specs.Int.{IsGcd}
use Rattle.std.proofs.lemmas.Int.{to_z-of_z}
use Rattle.emp_num.specs.Gcd.{gcd_of}
use Rattle.emp_num.proofs.Divisors.{gcd_of_is}
use Rattle.emp_line.specs.declared.line.Line.{Line}
use Rattle.emp_line.proofs.row.Row.grown.Goals as goal

pub returns : goal.returns
returns c =
    let fits : SFits w128 c.self.inside.constant = search rules in
    let same : c.unsigned_abs.result ≡ unsigned_abs c.self.inside.constant = simp to_z-of_z at c.unsigned_abs.ensures.value in
    gcd_of_is c.args.seed (unsigned_abs c.self.inside.constant) c.count_divisor.result (subst (λ n. IsGcd c.args.seed n c.count_divisor.result) same c.count_divisor.ensures)
    ∙ ap (λ (x : Line). gcd_of c.args.seed (unsigned_abs x.constant)) c.self.view_is

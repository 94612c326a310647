use Rattle.std.proofs.Common.{◌≡◌, unsigned_abs, get_or, rules, subst}
use mir.Syntax.{w128}
use mir.Val.{SFits}
use Rattle.std.specs.Int.{IsGcd}
use Rattle.std.proofs.lemmas.Int.{to_z-of_z}
use Rattle.emp_line.specs.Sparse.{no_cell}
use Rattle.emp_line.proofs.divide.common_with.Goals as goal

pub returns : goal.returns
returns c =
    let fits : SFits w128 (get_or c.args.row.now c.args.at no_cell).number = search rules in
    let same : c.unsigned_abs.result ≡ unsigned_abs (get_or c.args.row.now c.args.at no_cell).number = simp to_z-of_z at c.unsigned_abs.ensures.value in
    let d : IsGcd (unsigned_abs (get_or c.args.row.now c.args.at no_cell).number) c.args.total c.count_divisor.result = subst (λ n. IsGcd n c.args.total c.count_divisor.result) same c.count_divisor.ensures in
    (d.1, d.0, λ n h k. d.2 n k h)

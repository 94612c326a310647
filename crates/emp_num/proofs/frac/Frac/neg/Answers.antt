use Rattle.std.proofs.Common.{◌≡◌, ◌<ℤ◌, neg_ℤ, pos, arith, sym, subst, rules}
use mir.Syntax.{w128}
use mir.Val.{SFits}
use Rattle.std.proofs.lemmas.Int.{ints, to_z-of_z}
use Rattle.emp_num.specs.Exact.{IsNarrow, IsCoprime}
use Rattle.emp_num.proofs.Signs.{coprime_neg}
use Rattle.emp_num.proofs.frac.Frac.neg.Goals as goal

pub invariant_of-result : goal.invariant_of-result
invariant_of-result c =
    let e : c.negated_num.result ≡ neg_ℤ c.args.a.num = c.negated_num.ensures in
    let fits_num : SFits w128 c.negated_num.result = search rules in
    let fits_den : SFits w128 c.args.a.den = search rules in
    let positive : pos 0 <ℤ c.args.a.den = c.args.a.positive in
    let num_narrow : IsNarrow c.negated_num.result = omega (arith, ints) in
    let den_narrow : IsNarrow c.args.a.den = c.args.a.den_narrow in
    let lowest : IsCoprime c.negated_num.result c.args.a.den = subst (λ z. IsCoprime z c.args.a.den) (sym e) (coprime_neg c.args.a.num c.args.a.den c.args.a.lowest) in
    simp to_z-of_z (record { positive = positive; num_narrow = num_narrow; den_narrow = den_narrow; lowest = lowest })

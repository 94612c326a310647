use Rattle.std.proofs.Common.{◌≡◌, ◌∙◌, ◌-◌, ◌%◌, min, max, ap, arith, subst₂}
use Rattle.std.specs.Int.{IsGcd}
use Rattle.std.proofs.lemmas.Nat.Gcd.{IsGcd-from_zero}
use Rattle.emp_line.proofs.Halving.{turn_gcd, min_odd}
use Rattle.emp_line.proofs.binary.odd_divisor.Goals as goal

pub loop-y-preserved : goal.loop-y-preserved
loop-y-preserved c =
    let m : c.min-low.result ≡ min c.loop-y.x c.stripped-part.result = omega arith in
    let n : c.max.result ≡ max c.loop-y.x c.stripped-part.result = omega arith in
    record {
      odd = ap (λ z. z % 2) m ∙ min_odd c.loop-y.x c.stripped-part.result c.loop-y.invariant.odd c.stripped-part.ensures.odd;
      common = λ g h. c.loop-y.invariant.common g (c.stripped-part.ensures.common c.loop-y.x g c.loop-y.invariant.odd (turn_gcd c.loop-y.x c.stripped-part.result g (subst₂ (λ a b. IsGcd a (b - a) g) m n h)));
    }

pub returns : goal.returns
returns c = c.loop-y.invariant.common c.loop-y.x (IsGcd-from_zero c.loop-y.x c.loop-y.y (omega arith))

-- One coefficient of a product or of a quotient.
use Rattle.std.proofs.Common.{◌≡◌, ◌≢◌, inr, ℕ, pos, ◌+ℤ◌, ◌*ℤ◌, false, cond, Some, None, Result, Ok, Err, MatchResult, arith, sym, ap, subst, ◌∙◌}
use Rattle.std.specs.Prelude.{nat_eq}
use Rattle.emp_num.specs.FracSpec.{IsQuotient, AddsNarrow, AddsWide, DivGives}
use Rattle.emp_num.specs.declared.exact.Wide.{Wide as TheWide}
use Rattle.emp_num.specs.declared.frac.DivFault.{DivFault}
use Rattle.emp_num.specs.declared.frac.DivFault.TheVariants.{Zero, Wide}
use Rattle.emp_num.specs.declared.frac.Frac.{Frac}
use Rattle.emp_form.specs.Calls.{given, added, divided, HasWideCall, Runs}
use Rattle.emp_form.specs.Wide.{Fractions, product, cross_at, product_at}
use Rattle.emp_form.proofs.Running.{runs_added}

abbrev Adds : Frac → Frac → Result Frac TheWide → Type 0
Adds x y r = MatchResult r (λ r. AddsNarrow x y × IsQuotient r (x.num *ℤ y.den +ℤ y.num *ℤ x.den) (x.den *ℤ y.den)) (λ w. AddsWide x y)

apart : (i j : ℕ) → i ≢ j → nat_eq i j ≡ false
apart i j e = grind arith

pub cross_apart : (a b : Fractions) (i j : ℕ) (x y : Frac) (r : Result Frac TheWide) → i ≢ j → Runs (product a (None, Some i) b (None, Some j)) (Ok x) → Runs (product a (None, Some j) b (None, Some i)) (Ok y) → Adds x y r → Runs (cross_at a b i j) r
cross_apart a b i j x y r e h k s =
    subst (λ t. Runs (cond t (product a (None, Some i) b (None, Some i)) (added (product a (None, Some i) b (None, Some j)) (product a (None, Some j) b (None, Some i)))) r) (sym (apart i j e))
    (runs_added (product a (None, Some i) b (None, Some j)) (product a (None, Some j) b (None, Some i)) x y r h k s)

pub linear_runs : (a b : Fractions) (i : ℕ) (x y : Frac) (r : Result Frac TheWide) → Runs (product a (None, None) b (None, Some i)) (Ok x) → Runs (product a (None, Some i) b (None, None)) (Ok y) → Adds x y r → Runs (product_at a b None (Some i)) r
linear_runs a b i x y r h k s = runs_added (product a (None, None) b (None, Some i)) (product a (None, Some i) b (None, None)) x y r h k s

pub quotient_wide : (a b x y : Frac) (e : DivFault) → x ≡ a → y ≡ b → b.num ≢ pos 0 → DivGives x y (Err e) → HasWideCall (divided (given a) (given b))
quotient_wide a b x y Zero h k some d = absurd (some (sym (ap (λ (f : Frac). f.num) k) ∙ d))
quotient_wide a b x y Wide h k some d = inr (inr (x, y, h, k, d.1))

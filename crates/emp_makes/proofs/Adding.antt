-- The sums along the values, one addition after another.
use Rattle.std.proofs.Common.{◌≡◌, ℕ, suc, ◌+◌, ◌<◌, ◌*ℤ◌, ◌+ℤ◌, List, length, get_or, Result, Ok, Err, MatchResult, arith, ap, subst, ◌∙◌}
use Rattle.std.proofs.lemmas.List.{get_or_default}
use Rattle.emp_num.specs.FracSpec.{IsQuotient, AddsNarrow, AddsWide}
use Rattle.emp_num.specs.Whole.{whole}
use Rattle.emp_num.specs.declared.exact.Wide.{Wide}
use Rattle.emp_num.specs.declared.frac.Frac.{Frac}
use Rattle.emp_form.specs.Calls.{given, Runs}
use Rattle.emp_form.proofs.Running.{runs_added}
use Rattle.emp_poly.specs.Written.{entry}
use Rattle.emp_makes.specs.Makes.{sum_from, IsFirstWide}

abbrev pub Adds : Frac → Frac → Result Frac Wide → Type 0
Adds x y r = MatchResult r (λ r. AddsNarrow x y × IsQuotient r (x.num *ℤ y.den +ℤ y.num *ℤ x.den) (x.den *ℤ y.den)) (λ w. AddsWide x y)

-- no value is added yet
pub none_added : (values : List Frac) (first : ℕ) (sum : Frac) → sum ≡ whole 0 → Runs (sum_from values first 0) (Ok sum)
none_added values first sum e = (e, λ w. w)

pub one_added : (values : List Frac) (first k at : ℕ) (sum x : Frac) (r : Result Frac Wide) → at ≡ first + k → at < length values → x ≡ get_or values at x → Runs (sum_from values first k) (Ok sum) → Adds sum x r → Runs (sum_from values first (k + 1)) r
one_added values first k at sum x r e h is before adds =
    let same : x ≡ entry values (first + k) = is ∙ (get_or_default values at x (whole 0) h ∙ ap (entry values) e) in
    let next : suc k ≡ k + 1 = omega arith in
    subst (λ n. Runs (sum_from values first n) r) next (runs_added (sum_from values first k) (given (entry values (first + k))) sum x r before (same, λ w. w) adds)

pub one_wide : (values : List Frac) (first n k at : ℕ) (sum x : Frac) (w : Wide) → at ≡ first + k → k < n → at < length values → x ≡ get_or values at x → Runs (sum_from values first k) (Ok sum) → AddsWide sum x → IsFirstWide values first n at
one_wide values first n k at sum x w e l h is before wide = record {
  before = k;
  is = e;
  inside = l;
  narrow = before.1;
  wide = one_added values first k at sum x (Err w) e h is before wide;
}

-- Degrees by the last coefficient.
use Rattle.std.proofs.Common.{◌≡◌, ◌<◌, true, false, Option, Some, None, length, refl, sym, subst, ◌∙◌}
use Rattle.std.specs.Option.{IsSome}
use Rattle.std.specs.Ordering.{is_lt}
use Rattle.std.specs.BTreeMap.{get, is_at, IsUpperBound}
use Rattle.emp_num.specs.declared.frac.Frac.{Frac}
use Rattle.emp_form.specs.Form.{Monomial}
use Rattle.emp_expand.specs.Factors.{monomial_cmp, factor}
use Rattle.emp_expand.specs.Degrees.{KeyDegree, OnlyConstant, DegreeIs}
use Rattle.emp_expand.specs.declared.coefficients.Coefficients.{Coefficients}
use Rattle.emp_expand.specs.declared.coefficients.Degree.{Degree}
use Rattle.emp_expand.specs.declared.coefficients.Degree.TheVariants.{Constant, Linear, Quadratic}
use Rattle.emp_expand.proofs.Keys.{lookup_empty}

none_if : (o : Option Frac) → (IsSome o → ⊥) → o ≡ None
none_if None h = refl
none_if (Some f) h = absurd (h refl)

past : (c : Coefficients) (k q : Monomial) → IsUpperBound monomial_cmp c.terms k → is_lt (monomial_cmp k q) ≡ true → factor c q ≡ None
unfolding factor
past c k q up less = none_if (get monomial_cmp c.terms q) (λ h. let e : true ≡ false = sym less ∙ up q h in cc)

pub degree_all : (c : Coefficients) (k : Monomial) (f : Frac) (d : Degree) → get monomial_cmp c.terms k ≡ Some f → IsUpperBound monomial_cmp c.terms k → KeyDegree k d → DegreeIs c d
unfolding factor
degree_all c k f Constant was up e =
    let up2 = subst (λ k. IsUpperBound monomial_cmp c.terms k) e up in
    record { linear = λ i. past c (None, None) (None, Some i) up2 refl; square = λ i v. past c (None, None) (Some i, v) up2 refl }
degree_all c k f Linear was up h =
    let up2 = subst (λ k. IsUpperBound monomial_cmp c.terms k) h.1 up in
    (record { square = λ i v. past c (None, Some h.0) (Some i, v) up2 refl }, (h.0, f, subst (λ k. get monomial_cmp c.terms k ≡ Some f) h.1 was))
degree_all c k f Quadratic was up h = (h.0, h.1, f, subst (λ k. get monomial_cmp c.terms k ≡ Some f) h.2 was)

pub degree_none : (c : Coefficients) → (0 < length c.terms.entries → false ≡ true) → OnlyConstant c
unfolding factor
degree_none c h = record {
  linear = λ i. lookup_empty (is_at (monomial_cmp (None, Some i))) c.terms.entries h;
  square = λ i v. lookup_empty (is_at (monomial_cmp (Some i, v))) c.terms.entries h;
}

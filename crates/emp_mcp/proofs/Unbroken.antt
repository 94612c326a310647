-- Matches of which no rule is broken.
use Rattle.std.proofs.Common.{◌≡◌, ℕ, zero, suc, ◌<◌, Bool, true, false, ◌&&◌, ◌||◌, not, nat_eq, int_eq, List, [], ◌∷◌, take, Some, arith, refl, sym, ap, ◌∙◌}
use Rattle.std.specs.Prelude.{slice_get}
use Rattle.std.specs.List.{list_any}
use Rattle.std.proofs.lemmas.Bool.{eq-eqb, false≢true}
use Rattle.std.proofs.lemmas.Bool.Decides.{Decides-int_eq}
use Rattle.std.proofs.lemmas.Option.{same_Some, slice_get_within}
use Rattle.emp_num.proofs.Same.{frac_eq}
use Rattle.emp_ast.specs.declared.model.Relation.{Relation}
use Rattle.emp_ast.specs.declared.model.Relation.TheVariants.{AtMost}
use Rattle.emp_ast.specs.declared.model.Equation.{Equation}
use Rattle.emp_ast.specs.declared.model.End.{End}
use Rattle.emp_ast.specs.declared.model.End.TheVariants.{Open, At}
use Rattle.emp_ast.specs.declared.model.Variable.{Variable}
use Rattle.emp_ast.specs.declared.model.Model.{Model}
use Rattle.emp_mcp.specs.Complementary.{Match, is_matched, is_of_problem, is_matched_equation}
use Rattle.emp_mcp.specs.Target.{is_fixed_at}
use Rattle.emp_mcp.specs.Faults.{holds_at, equation_again, variable_again, has_relation, is_at_most, is_one_value, AreUnbroken}
use Rattle.emp_mcp.specs.Laws.{UnbrokenAreMatches}

any_before : {X : Type 0} (p : X → Bool) (xs : List X) (i j : ℕ) (x : X) → j < i → slice_get xs j ≡ Some x → p x ≡ true → list_any p (take i xs) ≡ true
any_before p [] i j x l at h = cc
any_before p (y ∷ xs) zero j x l at h = absurd (omega (arith, l))
any_before p (y ∷ xs) (suc i) zero x l at h = ap (λ b. b || list_any p (take i xs)) (ap p (same_Some y x at) ∙ h)
any_before {X} p (y ∷ xs) (suc i) (suc j) x l at h = ap (λ b. p y || b) (any_before p xs i j x (omega (arith, l)) at h) ∙ or_true (p y)
  where
    or_true : (b : Bool) → (b || true) ≡ true
    or_true true = refl
    or_true false = refl

first_false : (a b : Bool) → (a || b) ≡ false → a ≡ false
first_false true b e = absurd (false≢true (sym e))
first_false false b e = refl

second_false : (a b : Bool) → (a || b) ≡ false → b ≡ false
second_false true b e = absurd (false≢true (sym e))
second_false false b e = e

loose_fixed : (a b c : Bool) → a ≡ true → b ≡ false → (a && not b && not c) ≡ false → c ≡ true
loose_fixed true false true e f h = refl
loose_fixed true false false e f h = absurd (false≢true (sym h))
loose_fixed true true c e f h = absurd (false≢true (sym f))
loose_fixed false b c e f h = absurd (false≢true e)

and_first : (a b : Bool) → (a && b) ≡ true → a ≡ true
and_first true b e = refl
and_first false b e = absurd (false≢true e)

and_second : (a b : Bool) → (a && b) ≡ true → b ≡ true
and_second true b e = e
and_second false b e = absurd (false≢true e)

one_value : (l h : End) → is_one_value l h ≡ true → is_fixed_at l h
one_value Open h e = absurd (false≢true e)
one_value (At f) Open e = absurd (false≢true e)
one_value (At f) (At g) e = frac_eq f g ((Decides-int_eq f.num g.num).0 (and_first (int_eq f.num g.num) (int_eq f.den g.den) e)) ((Decides-int_eq f.den g.den).0 (and_second (int_eq f.num g.num) (int_eq f.den g.den) e))

is_upper : (r : Relation) → r ≡ AtMost → is_at_most r ≡ true
is_upper r e = ap is_at_most e

-- of two numbers the lower, or both the same
by_order : (i j : ℕ) → (i < j → ⊥) → (j < i → ⊥) → i ≡ j
by_order i j a b = omega (arith, a, b)

module _ (m : Model) (ms : List Match) (h : AreUnbroken m ms) where
  no_equation_again : (i j : ℕ) (q r : Match) → slice_get ms i ≡ Some q → slice_get ms j ≡ Some r → q.0.at ≡ r.0.at → i < j → ⊥
  no_equation_again i j q r at there e l =
      let none = first_false (equation_again ms j) (variable_again ms j) (first_false (equation_again ms j || variable_again ms j) (has_relation m ms j) (h.matches j (slice_get_within ms j r there))) in
      let some : is_matched_equation (take j ms) r.0.at ≡ true = any_before (λ z. nat_eq z.0.at r.0.at) ms j i q l at (eq-eqb q.0.at r.0.at e) in
      false≢true (sym none ∙ (ap (holds_at (λ z. is_matched_equation (take j ms) z.0.at)) there ∙ some))

  no_variable_again : (i j : ℕ) (q r : Match) → slice_get ms i ≡ Some q → slice_get ms j ≡ Some r → q.1.at ≡ r.1.at → i < j → ⊥
  no_variable_again i j q r at there e l =
      let none = second_false (equation_again ms j) (variable_again ms j) (first_false (equation_again ms j || variable_again ms j) (has_relation m ms j) (h.matches j (slice_get_within ms j r there))) in
      let some : is_matched (take j ms) r.1.at ≡ true = any_before (λ z. nat_eq z.1.at r.1.at) ms j i q l at (eq-eqb q.1.at r.1.at e) in
      false≢true (sym none ∙ (ap (holds_at (λ z. is_matched (take j ms) z.1.at)) there ∙ some))

  no_relation : (i : ℕ) (q : Match) (e : Equation) → slice_get ms i ≡ Some q → slice_get m.equations q.0.at ≡ Some e → e.relation ≡ AtMost → ⊥
  no_relation i q e at there f =
      let none = second_false (equation_again ms i || variable_again ms i) (has_relation m ms i) (h.matches i (slice_get_within ms i q at)) in
      false≢true (sym none ∙ (ap (holds_at (λ z. holds_at (λ x. is_at_most x.relation) (slice_get m.equations z.0.at))) at ∙ (ap (holds_at (λ x. is_at_most x.relation)) there ∙ is_upper e.relation f)))

  all_matched : (v : ℕ) (x : Variable) → slice_get m.variables v ≡ Some x → is_of_problem m ms v ≡ true → is_matched ms v ≡ false → is_fixed_at x.low x.high
  all_matched v x at of none =
      one_value x.low x.high (loose_fixed (is_of_problem m ms v) (is_matched ms v) (is_one_value x.low x.high) of none
      (sym (ap (λ o. is_of_problem m ms v && not (is_matched ms v) && holds_at (λ z. not (is_one_value z.low z.high)) o) at) ∙ h.all v (slice_get_within m.variables v x at)))

pub unbroken_are_matches : UnbrokenAreMatches
unbroken_are_matches m ms h = record {
  equations = h.equations;
  variables = h.variables;
  equation_once = λ i j q r at there e. by_order i j (no_equation_again m ms h i j q r at there e) (no_equation_again m ms h j i r q there at (sym e));
  variable_once = λ i j q r at there e. by_order i j (no_variable_again m ms h i j q r at there e) (no_variable_again m ms h j i r q there at (sym e));
  relation = no_relation m ms h;
  matched = all_matched m ms h;
}

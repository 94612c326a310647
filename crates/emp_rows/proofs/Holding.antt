-- What the test of a row point answers.
use Rattle.std.proofs.Common.{◌≡◌, ℕ, ◌-◌, Bool, true, false, List, [], ◌∷◌, length, All, Option, Some, None, Result, Ok, Err, arith, refl, sym, ◌∙◌}
use Rattle.std.specs.Result.{result_ok}
use Rattle.std.proofs.lemmas.List.Elements.{All-nil, All-cons, All-head, All-tail}
use Rattle.emp_num.specs.declared.exact.Wide.{Wide as WideNumber}
use Rattle.emp_num.specs.declared.frac.Frac.{Frac}
use Rattle.emp_num.specs.Point.{Point, StandsFor}
use Rattle.emp_rows.specs.declared.system.Kind.{Kind}
use Rattle.emp_rows.specs.declared.system.RowSystem.{RowSystem}
use Rattle.emp_rows.specs.Holding.{HoldsGives, IsFirstWide}
use Rattle.emp_rows.specs.Points.{IsNumber}
use Rattle.emp_rows.specs.RowPoints.{quantity, value_at, Solves}
use Rattle.emp_rows.specs.Systems.{IsMember}
use Rattle.emp_rows.specs.Values.{measured, both, kinds_hold, pairs_hold, holds}
use Rattle.emp_rows.proofs.Points.{OfKinds, value_is, all_passed, one_failed, of_kinds, are_kinds, first_wide, none_wide, all_fit, pairs_passed, pairs_failed, pairs_there}

module _ (ts : List Kind) (n : ℕ) (same : length ts ≡ n) where
  pub first_numbers : (ps : List (ℕ × ℕ)) → All (λ p. IsMember ts p.0) ps → All (λ p. IsNumber n p.0) ps
  first_numbers [] h = All-nil (λ (p : ℕ × ℕ). IsNumber n p.0)
  first_numbers (p ∷ ps) h =
      let m = All-head (λ (p : ℕ × ℕ). IsMember ts p.0) p ps h in
      All-cons (λ (p : ℕ × ℕ). IsNumber n p.0) p ps (m.above, omega (arith, m.within)) (first_numbers ps (All-tail (λ (p : ℕ × ℕ). IsMember ts p.0) p ps h))

  pub second_numbers : (ps : List (ℕ × ℕ)) → All (λ p. IsMember ts p.1) ps → All (λ p. IsNumber n p.1) ps
  second_numbers [] h = All-nil (λ (p : ℕ × ℕ). IsNumber n p.1)
  second_numbers (p ∷ ps) h =
      let m = All-head (λ (p : ℕ × ℕ). IsMember ts p.1) p ps h in
      All-cons (λ (p : ℕ × ℕ). IsNumber n p.1) p ps (m.above, omega (arith, m.within)) (second_numbers ps (All-tail (λ (p : ℕ × ℕ). IsMember ts p.1) p ps h))

-- the members of the pairs are quantities
pub firsts : (s : RowSystem) → All (λ p. IsNumber (length s.quantities) p.0) s.pairs
firsts s = first_numbers s.kinds (length s.quantities) s.sound.one_kind_each s.pairs s.sound.first_members

pub seconds : (s : RowSystem) → All (λ p. IsNumber (length s.quantities) p.1) s.pairs
seconds s = second_numbers s.kinds (length s.quantities) s.sound.one_kind_each s.pairs s.sound.second_members

module _ (s : RowSystem) (fs : List Frac) (l : length fs ≡ s.base) where
  solves_kinds : (p : Point) → StandsFor fs p → Solves s p → OfKinds (λ q. value_at q p) s.quantities s.kinds
  solves_kinds p st v = are_kinds s.quantities s.kinds p v.kinds

  kinds_solved : (p : Point) → StandsFor fs p → kinds_hold false s.quantities s.kinds fs ≡ Some true → OfKinds (λ q. value_at q p) s.quantities s.kinds
  kinds_solved p st e = all_passed false fs (λ q. value_at q p) p.den p.positive (λ q. value_is q fs p st) s.quantities s.kinds e

  pub passed_solves : (p : Point) → StandsFor fs p → kinds_hold false s.quantities s.kinds fs ≡ Some true → pairs_hold s fs s.pairs ≡ Some true → Solves s p
  passed_solves p st e f = record {
    count = st.count ∙ l;
    kinds = of_kinds s.quantities s.kinds p (kinds_solved p st e);
    pairs = pairs_passed s fs p s.pairs st f;
  }

  kinds_broken : kinds_hold false s.quantities s.kinds fs ≡ Some false → (p : Point) → StandsFor fs p → Solves s p → ⊥
  kinds_broken e p st v = one_failed false fs (λ q. value_at q p) p.den p.positive (λ q. value_is q fs p st) s.quantities s.kinds e (solves_kinds p st v)

  pairs_broken : pairs_hold s fs s.pairs ≡ Some false → (p : Point) → StandsFor fs p → Solves s p → ⊥
  pairs_broken e p st v = pairs_failed s fs p s.pairs st e v.pairs

  values_there : kinds_hold false s.quantities s.kinds fs ≡ Some true → (k : ℕ) → IsNumber (length s.quantities) k → measured false (quantity s k) fs ≡ None → ⊥
  values_there e k n w = let r = all_fit s.quantities s.kinds fs s.sound.one_kind_each e (k - 1) (omega arith) in let f = r.ends in cc

  -- where the quantities' values were folded, no pair's is wide
  pub pairs_narrow : kinds_hold false s.quantities s.kinds fs ≡ Some true → pairs_hold s fs s.pairs ≡ None → ⊥
  pairs_narrow e = pairs_there s fs (values_there e) s.pairs (firsts s) (seconds s)

  pub gives : (r : Result Bool WideNumber) → result_ok r ≡ holds s fs → HoldsGives s fs r
  gives r e = go (kinds_hold false s.quantities s.kinds fs) refl r e
    where
      none : (b : Bool) → kinds_hold false s.quantities s.kinds fs ≡ Some b → (k : ℕ) → IsFirstWide s.quantities s.kinds fs k → ⊥
      none b f = none_wide s.quantities s.kinds fs b s.sound.one_kind_each f

      go : (o : Option Bool) → kinds_hold false s.quantities s.kinds fs ≡ o → (r : Result Bool WideNumber) → result_ok r ≡ both o (pairs_hold s fs s.pairs) → HoldsGives s fs r
      go None f (Ok b) g = cc
      go None f (Err w) g = first_wide s.quantities s.kinds fs f
      go (Some false) f (Ok true) g = cc
      go (Some false) f (Ok false) g = (kinds_broken f, none false f)
      go (Some false) f (Err w) g = cc
      go (Some true) f (Ok true) g = (λ p st. passed_solves p st f (sym g), none true f)
      go (Some true) f (Ok false) g = (pairs_broken (sym g), none true f)
      go (Some true) f (Err w) g = absurd (pairs_narrow f (sym g))

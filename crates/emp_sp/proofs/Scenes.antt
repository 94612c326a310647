-- The point of a scenario meets all equations exactly where it meets the affine conditions of the scenario's outcomes.
use Rattle.std.proofs.Common.{◌≡◌, ℕ, zero, suc, ◌+◌, ◌*ℤ◌, Bool, true, false, cond, ◌||◌, nat_eq, List, [], ◌∷◌, ◌++◌, map, length, Some, arith, refl, sym, ap, subst, ◌∙◌}
use Rattle.std.specs.Prelude.{slice_get}
use Rattle.std.specs.List.{list_any}
use Rattle.std.proofs.lemmas.Bool.{eqb-true, false≢true}
use Rattle.std.proofs.lemmas.Option.{same_Some}
use Rattle.emp_algebra.specs.Vector.{cell}
use Rattle.emp_algebra.proofs.Ring.{var, ◌⊗◌, by_ring}
use Rattle.emp_num.specs.declared.frac.Frac.{Frac}
use Rattle.emp_num.specs.Ratio.{ratio, SameRatio}
use Rattle.emp_num.specs.Point.{Point, coordinate}
use Rattle.emp_ast.specs.declared.model.Model.{Model}
use Rattle.emp_ast.specs.Parties.{leader, owns, is_goal}
use Rattle.emp_ast.specs.Rivals.{IsFeasible}
use Rattle.emp_sp.specs.declared.annot.Random.{Random}
use Rattle.emp_sp.specs.Outcomes.{HasOutcomes}
use Rattle.emp_sp.specs.Plans.{alone, Scenario, each_before, scenarios}
use Rattle.emp_sp.specs.Scenes.{outcome_at, outcomes, SceneHolds, ScenesAreRows}
use Rattle.emp_sp.specs.Commons.{common}
use Rattle.emp_sp.proofs.Meeting.{equations_keep_outcomes}

-- ---- a scenario has one outcome for each random variable
abbrev IsOneOf : (Scenario → Type 0) → List Scenario → Type 0
IsOneOf P ss = (k : ℕ) (s : Scenario) → slice_get ss k ≡ Some s → P s

joined_each : (P : Scenario → Type 0) (xs ys : List Scenario) → IsOneOf P xs → IsOneOf P ys → IsOneOf P (xs ++ ys)
joined_each P [] ys h k i s at = k i s at
joined_each P (x ∷ xs) ys h k zero s at = h 0 s at
joined_each P (x ∷ xs) ys h k (suc i) s at = joined_each P xs ys (λ i s at. h (suc i) s at) k i s at

mapped_each : (o : Frac × Frac) (n : ℕ) (ss : List Scenario) → IsOneOf (λ s. length s ≡ n) ss → IsOneOf (λ s. length s ≡ n + 1) (map (λ s. o ∷ s) ss)
mapped_each o n [] h k s at = cc
mapped_each o n (t ∷ ss) h zero s at = subst (λ z. length z ≡ n + 1) (same_Some (o ∷ t) s at) (let e = h 0 t refl in omega (arith, e))
mapped_each o n (t ∷ ss) h (suc k) s at = mapped_each o n ss (λ i s at. h (suc i) s at) k s at

before_each : (os : List (Frac × Frac)) (n : ℕ) (ss : List Scenario) → IsOneOf (λ s. length s ≡ n) ss → IsOneOf (λ s. length s ≡ n + 1) (each_before os ss)
before_each [] n ss h k s at = cc
before_each (o ∷ os) n ss h k s at = joined_each (λ s. length s ≡ n + 1) (map (λ s. o ∷ s) ss) (each_before os ss) (mapped_each o n ss h) (before_each os n ss h) k s at

as_long : (rs : List Random) → IsOneOf (λ s. length s ≡ length rs) (scenarios rs)
as_long [] zero s at = let e : [] ≡ s = same_Some [] s at in subst (λ z. length z ≡ 0) e refl
as_long [] (suc k) s at = cc
as_long (r ∷ rs) k s at = let e = before_each r.outcomes (length rs) (scenarios rs) (as_long rs) k s at in omega (arith, e)

-- ---- the point has the outcomes
drawn_at : (rs : List Random) (s : Scenario) (q : Point) (w : ℕ) → length s ≡ length rs → ((i : ℕ) (r : Random) (o : Frac × Frac) → slice_get rs i ≡ Some r → slice_get s i ≡ Some o → SameRatio (coordinate q r.var.at) (ratio o.1.num o.1.den)) → list_any (λ r. nat_eq r.var.at w) rs ≡ true → cell q.nums w *ℤ common s ≡ outcome_at rs s w *ℤ q.den
drawn_at [] s q w l h is = absurd (false≢true is)
drawn_at (r ∷ rs) [] q w l h is = absurd (omega (arith, l))
drawn_at (r ∷ rs) (o ∷ os) q w l h is = go (nat_eq r.var.at w) refl is (λ e. drawn_at rs os q w (omega (arith, l)) (λ i r o a b. h (suc i) r o a b) e)
  where
    go : (b : Bool) → nat_eq r.var.at w ≡ b → (b || list_any (λ r. nat_eq r.var.at w) rs) ≡ true → (list_any (λ r. nat_eq r.var.at w) rs ≡ true → cell q.nums w *ℤ common os ≡ outcome_at rs os w *ℤ q.den) → cell q.nums w *ℤ (o.1.den *ℤ common os) ≡ cond b (o.1.num *ℤ common os) (o.1.den *ℤ outcome_at rs os w) *ℤ q.den
    go true e i more =
        let same : cell q.nums w *ℤ o.1.den ≡ o.1.num *ℤ q.den = subst (λ z. SameRatio (coordinate q z) (ratio o.1.num o.1.den)) (eqb-true r.var.at w e) (h 0 r o refl refl) in
        by_ring (cell q.nums w ∷ o.1.den ∷ common os ∷ []) (var 0 ⊗ (var 1 ⊗ var 2)) (var 0 ⊗ var 1 ⊗ var 2) refl
        ∙ (ap (λ z. z *ℤ common os) same ∙ by_ring (o.1.num ∷ q.den ∷ common os ∷ []) (var 0 ⊗ var 1 ⊗ var 2) (var 0 ⊗ var 2 ⊗ var 1) refl)
    go false e i more =
        by_ring (cell q.nums w ∷ o.1.den ∷ common os ∷ []) (var 0 ⊗ (var 1 ⊗ var 2)) (var 1 ⊗ (var 0 ⊗ var 2)) refl
        ∙ (ap (λ z. o.1.den *ℤ z) (more i) ∙ by_ring (o.1.den ∷ outcome_at rs os w ∷ q.den ∷ []) (var 0 ⊗ (var 1 ⊗ var 2)) (var 0 ⊗ var 1 ⊗ var 2) refl)

-- ---- the leader owns all
or_right : (a b : Bool) → b ≡ true → (a || b) ≡ true
or_right true b e = refl
or_right false b e = e

all_owned : (m : Model) (v : ℕ) → owns m alone leader v ≡ true
all_owned m v = or_right (is_goal m v || false) true refl

pub scenes_are_rows : ScenesAreRows
scenes_are_rows m a p k s q class at shows = (down, up)
  where
    has : HasOutcomes (outcomes a s) q
    has w l is = drawn_at a.randoms s q w (as_long a.randoms k s at) shows.drawn is

    down : IsFeasible m alone leader q → SceneHolds m a s q
    down h = record {
      bounds = λ v x here. h.deviation.bounds v x here (all_owned m v);
      definition = h.deviation.definition;
      rows = λ e c here is. (equations_keep_outcomes (outcomes a s) c q (class.expanded e c here) (class.factors e c here) has).0 (h.constraints e c here is);
    }

    up : SceneHolds m a s q → IsFeasible m alone leader q
    up h = record {
      deviation = record {
        fits = shows.fits;
        others = λ v l o. absurd (false≢true (sym o ∙ all_owned m v));
        bounds = λ v x here o. h.bounds v x here;
        definition = h.definition;
      };
      constraints = λ e c here is. (equations_keep_outcomes (outcomes a s) c q (class.expanded e c here) (class.factors e c here) has).1 (h.rows e c here is);
    }

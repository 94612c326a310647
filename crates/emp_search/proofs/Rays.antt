-- The worked rays.
use Rattle.std.proofs.Common.{◌≡◌, ◌⊎◌, inl, inr, ℕ, zero, suc, ◌<◌, ℤ, pos, negsuc, ◌<ℤ◌, [], ◌∷◌, slice_index_or, arith, refl, subst}
use Rattle.std.proofs.lemmas.Int.{ints}
use Rattle.std.proofs.lemmas.Option.{same_Some}
use Rattle.emp_rows.specs.Systems.{IsSystem}
use Rattle.emp_rows.specs.declared.system.Kind.TheVariants.{Nonneg}
use Rattle.emp_rows.specs.declared.system.RowSystem.{RowSystem}
use Rattle.emp_rows.specs.RowPoints.{rate_along, OneVanishes}
use Rattle.emp_cert.specs.Verdicts.{OneStays, IsRowRay}
use Rattle.emp_search.specs.Example.{row, open_rows, open_goal, whole_point, ExampleRays}
use Rattle.emp_search.proofs.Searches.{by_fields}

module _ (sound : IsSystem 2 open_rows (Nonneg ∷ Nonneg ∷ []) ((1, 2) ∷ []) open_goal) where
  abbrev open_system : RowSystem
  open_system = record { base = 2; quantities = open_rows; kinds = Nonneg ∷ Nonneg ∷ []; pairs = (1, 2) ∷ []; objective = open_goal; sound = sound }

  vanishes : (k : ℕ) → k < 1 → OneVanishes open_system (whole_point (pos 0 ∷ pos 0 ∷ [])) (slice_index_or ((1, 2) ∷ []) k (0, 0))
  vanishes zero l = inl refl
  vanishes (suc k) l = absurd (omega arith)

  stays : (k : ℕ) → k < 1 → OneStays open_system (whole_point (pos 0 ∷ pos 0 ∷ [])) (whole_point (pos 1 ∷ pos 0 ∷ [])) (slice_index_or ((1, 2) ∷ []) k (0, 0))
  stays zero l = inr (refl, refl)
  stays (suc k) l = absurd (omega arith)

  goes_along : IsRowRay open_system (whole_point (pos 0 ∷ pos 0 ∷ [])) (whole_point (pos 1 ∷ pos 0 ∷ []))
  goes_along = record {
    point = record { count = refl; kinds = (omega (arith, ints), (omega (arith, ints), tt)); pairs = vanishes };
    count = refl;
    kinds = (omega (arith, ints), (omega (arith, ints), tt));
    pairs = stays;
    falls = λ r e. subst (λ o. rate_along o (whole_point (pos 1 ∷ pos 0 ∷ [])) <ℤ pos 0) (same_Some (row (pos 0) (negsuc 0 ∷ pos 0 ∷ [])) r e) (omega (arith, ints));
  }

one_is_none : pos 1 ≡ pos 0 → ⊥
one_is_none e = omega (arith, ints, e)

two_is_none : pos 2 ≡ pos 0 → ⊥
two_is_none e = omega (arith, ints, e)

both_one : (pos 1 ≡ pos 0) ⊎ (pos 1 ≡ pos 0) → ⊥
both_one (inl e) = one_is_none e
both_one (inr e) = one_is_none e

both_move : ((pos 0 ≡ pos 0) × (pos 1 ≡ pos 0)) ⊎ ((pos 0 ≡ pos 0) × (pos 2 ≡ pos 0)) → ⊥
both_move (inl e) = one_is_none e.1
both_move (inr e) = two_is_none e.1

pub example_rays : ExampleRays
example_rays = record {
  along = by_fields (λ s. IsRowRay s (whole_point (pos 0 ∷ pos 0 ∷ [])) (whole_point (pos 1 ∷ pos 0 ∷ []))) _ _ _ _ goes_along;
  level = by_fields (λ s. IsRowRay s (whole_point (pos 0 ∷ pos 0 ∷ [])) (whole_point (pos 0 ∷ pos 1 ∷ [])) → ⊥) _ _ _ _ (λ sound h. absurd (h.falls (row (pos 0) (negsuc 0 ∷ pos 0 ∷ [])) refl).lt);
  below = by_fields (λ s. IsRowRay s (whole_point (pos 0 ∷ pos 0 ∷ [])) (whole_point (negsuc 0 ∷ pos 0 ∷ [])) → ⊥) _ _ _ _ (λ sound h. absurd h.kinds.0.le);
  breaks = by_fields (λ s. IsRowRay s (whole_point (pos 0 ∷ [])) (whole_point (pos 1 ∷ [])) → ⊥) _ _ _ _ (λ sound h. both_move (h.pairs 0 (omega arith)));
  starts_off = by_fields (λ s. IsRowRay s (whole_point (pos 1 ∷ pos 1 ∷ [])) (whole_point (pos 1 ∷ pos 0 ∷ [])) → ⊥) _ _ _ _ (λ sound h. both_one (h.point.pairs 0 (omega arith)));
}

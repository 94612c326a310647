-- Numbers that are kept of a list, and where they stand.
use Rattle.std.proofs.Common.{◌≡◌, ◌⊎◌, inl, inr, ℕ, zero, suc, ◌+◌, ◌<◌, ◌≤◌, Bool, true, false, cond, ◌||◌, List, [], ◌∷◌, length, Some, arith, refl, sym, ap, subst, ◌∙◌}
use Rattle.std.specs.Prelude.{filter, slice_get}
use Rattle.std.specs.List.{list_any}
use Rattle.std.proofs.lemmas.Bool.{eq-eqb, ne_eqb, cases_eq, false≢true}
use Rattle.std.proofs.lemmas.Option.{same_Some}
use Rattle.emp_mcp.specs.Target.{kept_from, place_in}

module _ (test : ℕ → Bool) where
  found_step : (at v : ℕ) (rest : List ℕ) (b : Bool) → test at ≡ b → test v ≡ true → (at ≡ v) ⊎ (at ≡ v → ⊥) → ((at ≡ v → ⊥) → slice_get rest (place_in rest v) ≡ Some v) → slice_get (cond b (at ∷ rest) rest) (place_in (cond b (at ∷ rest) rest) v) ≡ Some v
  found_step at v rest true t h (inl e) more = subst (λ c. slice_get (at ∷ rest) (cond c 0 (suc (place_in rest v))) ≡ Some v) (sym (eq-eqb at v e)) (ap Some e)
  found_step at v rest true t h (inr n) more = subst (λ c. slice_get (at ∷ rest) (cond c 0 (suc (place_in rest v))) ≡ Some v) (sym (ne_eqb at v n)) (more n)
  found_step at v rest false t h (inl e) more = absurd (false≢true (sym t ∙ (ap test e ∙ h)))
  found_step at v rest false t h (inr n) more = more n

  -- a kept number stands at its place
  pub kept_found : {X : Type 0} (at : ℕ) (xs : List X) (v : ℕ) → at ≤ v → v < at + length xs → test v ≡ true → slice_get (kept_from test at xs) (place_in (kept_from test at xs) v) ≡ Some v
  kept_found at [] v l h t = absurd (omega arith)
  kept_found at (x ∷ xs) v l h t = found_step at v (kept_from test (at + 1) xs) (test at) refl t (cases_eq at v) (λ n. kept_found (at + 1) xs v (omega (arith, n)) (omega arith) t)

  pub record Kept {X : Type 0} (at : ℕ) (xs : List X) (k v : ℕ) : Type 0 where
    pub from : at ≤ v
    pub to : v < at + length xs
    pub passes : test v ≡ true
    pub place : place_in (kept_from test at xs) v ≡ k

  past : (at v : ℕ) (rest : List ℕ) → (at ≡ v → ⊥) → place_in (at ∷ rest) v ≡ suc (place_in rest v)
  past at v rest n = ap (λ c. cond c 0 (suc (place_in rest v))) (ne_eqb at v n)

  -- what stands at some place is kept, and that is its place
  pub kept_at : {X : Type 0} (at : ℕ) (xs : List X) (k v : ℕ) → slice_get (kept_from test at xs) k ≡ Some v → Kept at xs k v
  kept_at at [] k v h = cc
  kept_at {X} at (x ∷ xs) k v h = go (test at) refl k h (λ j g. kept_at (at + 1) xs j v g)
    where
      go : (b : Bool) → test at ≡ b → (k : ℕ) → slice_get (cond b (at ∷ kept_from test (at + 1) xs) (kept_from test (at + 1) xs)) k ≡ Some v → ((j : ℕ) → slice_get (kept_from test (at + 1) xs) j ≡ Some v → Kept (at + 1) xs j v) → Kept at (x ∷ xs) k v
      go true t zero h more =
          let e : at ≡ v = same_Some at v h in
          record {
            from = omega arith;
            to = omega arith;
            passes = ap test (sym e) ∙ t;
            place = ap (λ b. place_in (cond b (at ∷ kept_from test (at + 1) xs) (kept_from test (at + 1) xs)) v) t ∙ ap (λ c. cond c 0 (suc (place_in (kept_from test (at + 1) xs) v))) (eq-eqb at v e);
          }
      go true t (suc k) h more =
          let m = more k h in
          let f = m.from in
          let l = m.to in
          record {
            from = omega (arith, f);
            to = omega (arith, l);
            passes = m.passes;
            place = ap (λ b. place_in (cond b (at ∷ kept_from test (at + 1) xs) (kept_from test (at + 1) xs)) v) t ∙ (past at v (kept_from test (at + 1) xs) (λ e. omega (arith, f, e)) ∙ ap suc m.place);
          }
      go false t k h more =
          let m = more k h in
          let f = m.from in
          let l = m.to in
          record { from = omega (arith, f); to = omega (arith, l); passes = m.passes; place = ap (λ b. place_in (cond b (at ∷ kept_from test (at + 1) xs) (kept_from test (at + 1) xs)) v) t ∙ m.place }

-- ---- what stands in a list, and tests over lists
pub has_get : {X : Type 0} (xs : List X) (k : ℕ) → k < length xs → (x : X) × (slice_get xs k ≡ Some x)
has_get [] k l = absurd (omega arith)
has_get (x ∷ xs) zero l = (x, refl)
has_get (x ∷ xs) (suc k) l = has_get xs k (omega arith)

pub or_right : (a b : Bool) → b ≡ true → (a || b) ≡ true
or_right true b e = refl
or_right false b e = e

pub any_filter : {A : Type 0} (p keep : A → Bool) (xs : List A) (k : ℕ) (x : A) → slice_get xs k ≡ Some x → keep x ≡ true → p x ≡ true → list_any p (filter keep xs) ≡ true
any_filter p keep [] k x at h i = cc
any_filter {A} p keep (y ∷ xs) zero x at h i =
    let e : y ≡ x = same_Some y x at in
    subst (λ b. list_any p (cond b (y ∷ filter keep xs) (filter keep xs)) ≡ true) (sym (ap keep e ∙ h)) (ap (λ b. b || list_any p (filter keep xs)) (ap p e ∙ i))
any_filter {A} p keep (y ∷ xs) (suc k) x at h i = go (keep y) (any_filter p keep xs k x at h i)
  where
    go : (b : Bool) → list_any p (filter keep xs) ≡ true → list_any p (cond b (y ∷ filter keep xs) (filter keep xs)) ≡ true
    go true e = or_right (p y) (list_any p (filter keep xs)) e
    go false e = e

pub any_implies : {A : Type 0} (p r : A → Bool) (xs : List A) → ((x : A) → p x ≡ true → r x ≡ true) → list_any p xs ≡ true → list_any r xs ≡ true
any_implies p r [] f h = cc
any_implies {A} p r (x ∷ xs) f h = go (p x) refl h (any_implies p r xs f)
  where
    go : (b : Bool) → p x ≡ b → (b || list_any p xs) ≡ true → (list_any p xs ≡ true → list_any r xs ≡ true) → (r x || list_any r xs) ≡ true
    go true e h more = ap (λ b. b || list_any r xs) (f x e)
    go false e h more = or_right (r x) (list_any r xs) (more h)

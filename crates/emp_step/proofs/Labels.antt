-- Where a label stands.
use Rattle.std.proofs.Common.{◌≡◌, ◌≢◌, ℕ, zero, suc, ◌+◌, ◌<◌, Bool, true, false, cond, List, [], ◌∷◌, length, get_or, Some, None, arith, refl, ap, ◌∙◌}
use Rattle.emp_dict.specs.declared.label.Label.{Label}
use Rattle.emp_dict.specs.declared.label.Label.TheVariants.{Objective}
use Rattle.emp_dict.specs.Dictionary.{Dictionary, row_label, label_eq, place_from, row_of}
use Rattle.emp_dict.proofs.Labels.{label_eq-true, label_same}

pub record Stands (vs : List Label) (w : Label) (at r : ℕ) : Type 0 where
  pub place : ℕ
  pub is : r ≡ at + place
  pub below : place < length vs
  pub label : get_or vs place Objective ≡ w

pub place_found : (at : ℕ) (w : Label) (vs : List Label) (r : ℕ) → place_from at w vs ≡ Some r → Stands vs w at r
place_found at w [] r e = absurd (cc)
place_found at w (v ∷ vs) r e = go (label_eq v w) refl e (λ h. place_found (at + 1) w vs r h)
  where
    go : (b : Bool) → label_eq v w ≡ b → cond b (Some at) (place_from (at + 1) w vs) ≡ Some r → (place_from (at + 1) w vs ≡ Some r → Stands vs w (at + 1) r) → Stands (v ∷ vs) w at r
    go true q h rest = let same : at ≡ r = cc in record { place = 0; is = omega arith; below = omega arith; label = label_eq-true v w q }
    go false q h rest = let s = rest h in record { place = suc s.place; is = let i = s.is in omega arith; below = let b = s.below in omega arith; label = s.label }

pub place_none : (at : ℕ) (w : Label) (vs : List Label) → place_from at w vs ≡ None → (i : ℕ) → i < length vs → get_or vs i Objective ≢ w
place_none at w [] e i h = absurd (omega arith)
place_none at w (v ∷ vs) e i h = go (label_eq v w) refl e i h (λ q. place_none (at + 1) w vs q)
  where
    go : (b : Bool) → label_eq v w ≡ b → cond b (Some at) (place_from (at + 1) w vs) ≡ None → (i : ℕ) → i < length (v ∷ vs) → (place_from (at + 1) w vs ≡ None → (i : ℕ) → i < length vs → get_or vs i Objective ≢ w) → get_or (v ∷ vs) i Objective ≢ w
    go true q h i l rest = absurd (cc)
    go false q h zero l rest = λ z. let t : label_eq v w ≡ true = ap (λ x. label_eq x w) z ∙ label_same w in cc
    go false q h (suc i) l rest = rest h i (omega arith)

pub record RowIs (d : Dictionary) (w : Label) (r : ℕ) : Type 0 where
  pub below : r < length d.rows
  pub label : row_label d r ≡ w

pub row_found : (d : Dictionary) (w : Label) (r : ℕ) → row_of d w ≡ Some r → RowIs d w r
row_found d w r e =
    let s = place_found 0 w d.rows r e in
    let same : r ≡ s.place = let i = s.is in omega arith in
    record { below = let b = s.below in omega arith; label = ap (λ i. row_label d i) same ∙ s.label }

pub row_none : (d : Dictionary) (w : Label) → row_of d w ≡ None → (i : ℕ) → i < length d.rows → row_label d i ≢ w
row_none d w e = place_none 0 w d.rows e

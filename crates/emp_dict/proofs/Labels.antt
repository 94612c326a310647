-- Labels: equality, and the places where they stand.
use Rattle.std.proofs.Common.{◌≡◌, ◌≢◌, ◌⊎◌, inl, inr, ℕ, zero, suc, ◌+◌, ◌<◌, ◌≤◌, Bool, true, false, cond, ◌||◌, List, [], ◌∷◌, length, drop, get_or, Some, None, arith, refl, sym, ap, subst, ◌∙◌}
use Rattle.std.proofs.lemmas.List.{drop_more, drop_all, get_or_default}
use Rattle.std.proofs.lemmas.Bool.{eqb-true, eq-eqb}
use Rattle.emp_dict.specs.declared.label.Label.{Label}
use Rattle.emp_dict.specs.declared.label.Label.TheVariants.{Base, Quantity, Objective}
use Rattle.emp_dict.specs.Dictionary.{label_eq, place_from, stands}

pub label_eq-true : (v w : Label) → label_eq v w ≡ true → v ≡ w
label_eq-true (Base b) (Base c) h = ap Base (eqb-true b c h)
label_eq-true (Base b) (Quantity k) h = cc
label_eq-true (Base b) Objective h = cc
label_eq-true (Quantity k) (Base b) h = cc
label_eq-true (Quantity k) (Quantity m) h = ap Quantity (eqb-true k m h)
label_eq-true (Quantity k) Objective h = cc
label_eq-true Objective (Base b) h = cc
label_eq-true Objective (Quantity k) h = cc
label_eq-true Objective Objective h = refl

pub label_same : (w : Label) → label_eq w w ≡ true
label_same (Base b) = eq-eqb b b refl
label_same (Quantity k) = eq-eqb k k refl
label_same Objective = refl

pub eq-label_eq : (v w : Label) → v ≡ w → label_eq v w ≡ true
eq-label_eq v w h = subst (λ u. label_eq v u ≡ true) h (label_same v)

pub label_eq-false : (v w : Label) → v ≢ w → label_eq v w ≡ false
label_eq-false v w h = go (label_eq v w) refl
  where
    go : (b : Bool) → label_eq v w ≡ b → label_eq v w ≡ false
    go true e = absurd (h (label_eq-true v w e))
    go false e = e

pub or_cases : (x y : Bool) → (x || y) ≡ true → (x ≡ true) ⊎ (y ≡ true)
or_cases true y h = inl refl
or_cases false y h = inr h

pub or_first : (x y : Bool) → x ≡ true → (x || y) ≡ true
or_first x y h = ap (λ b. b || y) h

pub or_second : (x y : Bool) → y ≡ true → (x || y) ≡ true
or_second true y h = refl
or_second false y h = h

-- a place where the label stands
pub record Place (w : Label) (ls : List Label) : Type 0 where
  pub at : ℕ
  pub below : at < length ls
  pub is : get_or ls at Objective ≡ w

pub stands_place : (w : Label) (ls : List Label) → stands w ls ≡ true → Place w ls
stands_place w [] h = cc
stands_place w (v ∷ vs) h = go (or_cases (label_eq v w) (stands w vs) h) (stands_place w vs)
  where
    go : (label_eq v w ≡ true) ⊎ (stands w vs ≡ true) → (stands w vs ≡ true → Place w vs) → Place w (v ∷ vs)
    go (inl e) f = record { at = 0; below = omega arith; is = label_eq-true v w e }
    go (inr e) f = let p = f e in record { at = suc p.at; below = let b = p.below in omega arith; is = p.is }

pub place_stands : (w : Label) (ls : List Label) (i : ℕ) → i < length ls → get_or ls i Objective ≡ w → stands w ls ≡ true
place_stands w [] i h e = absurd (omega arith)
place_stands w (v ∷ vs) zero h e = or_first (label_eq v w) (stands w vs) (eq-label_eq v w e)
place_stands w (v ∷ vs) (suc i) h e = or_second (label_eq v w) (stands w vs) (place_stands w vs i (omega arith) e)

-- ---- the first place of a label, looked for from place i on
place_more : (w : Label) (ls : List Label) (i : ℕ) → i < length ls → place_from i w (drop i ls) ≡ cond (label_eq (get_or ls i Objective) w) (Some i) (place_from (i + 1) w (drop (i + 1) ls))
place_more w ls i h = ap (λ xs. place_from i w xs) (drop_more ls i Objective h)

pub place_found : (w : Label) (ls : List Label) (i : ℕ) (v : Label) → place_from i w (drop i ls) ≡ place_from 0 w ls → i < length ls → v ≡ get_or ls i v → v ≡ w → Some i ≡ place_from 0 w ls
place_found w ls i v e h q p =
    let is : get_or ls i Objective ≡ w = get_or_default ls i Objective v h ∙ (sym q ∙ p) in
    sym (place_more w ls i h ∙ ap (λ b. cond b (Some i) (place_from (i + 1) w (drop (i + 1) ls))) (eq-label_eq (get_or ls i Objective) w is)) ∙ e

pub place_next : (w : Label) (ls : List Label) (i : ℕ) (v : Label) → place_from i w (drop i ls) ≡ place_from 0 w ls → i < length ls → v ≡ get_or ls i v → v ≢ w → place_from (i + 1) w (drop (i + 1) ls) ≡ place_from 0 w ls
place_next w ls i v e h q p =
    let is : get_or ls i Objective ≡ v = get_or_default ls i Objective v h ∙ sym q in
    sym (place_more w ls i h ∙ ap (λ b. cond b (Some i) (place_from (i + 1) w (drop (i + 1) ls))) (label_eq-false (get_or ls i Objective) w (λ z. p (sym is ∙ z)))) ∙ e

pub place_none : (w : Label) (ls : List Label) (i : ℕ) → place_from i w (drop i ls) ≡ place_from 0 w ls → length ls ≤ i → None ≡ place_from 0 w ls
place_none w ls i e h = sym (ap (λ xs. place_from i w xs) (drop_all i ls h)) ∙ e

pub ruleset placing = (place_found, place_next, place_none)

pub label_read : (ls now : List Label) (v : Label) (i : ℕ) → i < length ls → now ≡ ls → get_or now i v ≡ get_or ls i Objective
label_read ls now v i h e = ap (λ xs. get_or xs i v) e ∙ get_or_default ls i v Objective h

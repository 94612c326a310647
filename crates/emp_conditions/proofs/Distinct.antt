-- The slots of a game differ, and a list with one number for each slot is found again by its slots.
use Rattle.std.proofs.Common.{◌≡◌, ◌⊎◌, inl, inr, ℕ, suc, ◌<◌, ℤ, Bool, true, false, ◌||◌, ◌&&◌, cond, nat_eq, List, [], ◌∷◌, ◌++◌, map, length, arith, refl, sym, ap, ap₂, ◌∙◌}
use Rattle.std.proofs.lemmas.Bool.{eqb-true, false≢true}
use Rattle.emp_algebra.specs.Vector.{cell}
use Rattle.emp_game.specs.Game.{Rule, Player, names, AreApart}
use Rattle.emp_game.proofs.Slopes.{eqb_refl}
use Rattle.emp_split.specs.Games.{Game, EachPlayer}
use Rattle.emp_split.specs.Numbers.{needs_own, Slot, player_slots, slots_from, index_of}
use Rattle.emp_split.proofs.Each.{or_first, or_second}
use Rattle.emp_split.proofs.Places.{same_slot, has_slot}

-- ---- booleans
pub or_left : (b c : Bool) → b || c ≡ false → b ≡ false
or_left true c h = h
or_left false c h = refl

pub or_right : (b c : Bool) → b || c ≡ false → c ≡ false
or_right true c h = absurd (false≢true (sym h))
or_right false c h = h

neither : (b c : Bool) → b ≡ false → c ≡ false → b || c ≡ false
neither true c h k = h
neither false c h k = k

decided : (b : Bool) → (b ≡ true) ⊎ (b ≡ false)
decided true = inl refl
decided false = inr refl

pub and_parts : (b c : Bool) → b && c ≡ true → (b ≡ true) × (c ≡ true)
and_parts true c h = (refl, h)
and_parts false c h = absurd (false≢true h)

pub slot_self : (s : Slot) → same_slot s s ≡ true
slot_self s = ap₂ (λ b c. b && c) (eqb_refl s.0) (eqb_refl s.1)

pub slot_is : (t s : Slot) → same_slot t s ≡ true → (t.0 ≡ s.0) × (t.1 ≡ s.1)
slot_is t s h = let p = and_parts (nat_eq t.0 s.0) (nat_eq t.1 s.1) h in (eqb-true t.0 s.0 p.0, eqb-true t.1 s.1 p.1)

slot_swapped : (t s u : Slot) → same_slot t s ≡ true → same_slot t u ≡ same_slot s u
slot_swapped t s u h = let p = slot_is t s h in ap₂ (λ i e. nat_eq i u.0 && nat_eq e u.1) p.0 p.1

has_swapped : (t s : Slot) (us : List Slot) → same_slot t s ≡ true → has_slot t us ≡ has_slot s us
has_swapped t s [] h = refl
has_swapped t s (u ∷ us) h = let p = slot_is t s h in ap₂ (λ b c. b || c) (ap₂ (λ i e. nat_eq u.0 i && nat_eq u.1 e) p.0 p.1) (has_swapped t s us h)

-- ---- lists of slots that differ
abbrev pub AreDistinct : List Slot → Type 0
AreDistinct [] = Unit {0}
AreDistinct (s ∷ ss) = (has_slot s ss ≡ false) × AreDistinct ss

pub map_slots : (ss : List Slot) (f h : Slot → ℤ) → ((s : Slot) → has_slot s ss ≡ true → f s ≡ h s) → map f ss ≡ map h ss
map_slots [] f h k = refl
map_slots (s ∷ ss) f h k =
    ap₂ (λ (x : ℤ) (xs : List ℤ). x ∷ xs) (k s (or_first (same_slot s s) (has_slot s ss) (slot_self s))) (map_slots ss f h (λ t m. k t (or_second (same_slot s t) (has_slot t ss) m)))

pub found_again : (ss : List Slot) (ts : List ℤ) → AreDistinct ss → length ts ≡ length ss → map (λ s. cell ts (index_of s ss)) ss ≡ ts
found_again [] [] d l = refl
found_again [] (t ∷ ts) d l = absurd (omega arith)
found_again (s ∷ ss) [] d l = absurd (omega arith)
found_again (s ∷ ss) (t ∷ ts) d l =
    ap₂ (λ (x : ℤ) (xs : List ℤ). x ∷ xs)
    (ap (λ b. cell (t ∷ ts) (cond b 0 (suc (index_of s ss)))) (slot_self s))
    (map_slots ss (λ u. cell (t ∷ ts) (index_of u (s ∷ ss))) (λ u. cell ts (index_of u ss)) later ∙ found_again ss ts d.1 (omega arith))
  where
    later : (u : Slot) → has_slot u ss ≡ true → cell (t ∷ ts) (index_of u (s ∷ ss)) ≡ cell ts (index_of u ss)
    later u m = go (decided (same_slot s u))
      where
        go : (same_slot s u ≡ true) ⊎ (same_slot s u ≡ false) → cell (t ∷ ts) (index_of u (s ∷ ss)) ≡ cell ts (index_of u ss)
        go (inl q) = absurd (false≢true (sym d.0 ∙ (has_swapped s u ss q ∙ m)))
        go (inr q) = ap (λ b. cell (t ∷ ts) (cond b 0 (suc (index_of u ss)))) q

append_distinct : (us ts : List Slot) → AreDistinct us → AreDistinct ts → ((s : Slot) → has_slot s us ≡ true → has_slot s ts ≡ false) → AreDistinct (us ++ ts)
append_distinct [] ts d e h = e
append_distinct (u ∷ us) ts d e h =
    (apart us ts u d.0 (h u (or_first (same_slot u u) (has_slot u us) (slot_self u))), append_distinct us ts d.1 e (λ s m. h s (or_second (same_slot u s) (has_slot s us) m)))
  where
    apart : (us ts : List Slot) (s : Slot) → has_slot s us ≡ false → has_slot s ts ≡ false → has_slot s (us ++ ts) ≡ false
    apart [] ts s h k = k
    apart (v ∷ vs) ts s h k = neither (same_slot v s) (has_slot s (vs ++ ts)) (or_left (same_slot v s) (has_slot s vs) h) (apart vs ts s (or_right (same_slot v s) (has_slot s vs) h) k)

-- ---- the slots of a game
none_kept : (b : Bool) (s t : Slot) (ts : List Slot) → same_slot t s ≡ false → has_slot s ts ≡ false → has_slot s (cond b (t ∷ ts) ts) ≡ false
none_kept true s t ts h k = neither (same_slot t s) (has_slot s ts) h k
none_kept false s t ts h k = k

and_none : (b c : Bool) → c ≡ false → b && c ≡ false
and_none true c h = h
and_none false c h = refl

none_and : (b c : Bool) → b ≡ false → b && c ≡ false
none_and true c h = absurd (false≢true (sym h))
none_and false c h = refl

no_rule : (g : Game) (j : ℕ) (rs : List Rule) (e : ℕ) → names (map (λ r. r.equation) rs) e ≡ false → has_slot (j, e) (player_slots g j rs) ≡ false
no_rule g j [] e h = refl
no_rule g j (r ∷ rs) e h =
    none_kept (needs_own g j r.equation) (j, e) (j, r.equation) (player_slots g j rs) (and_none (nat_eq j j) (nat_eq r.equation e) (or_left (nat_eq r.equation e) (names (map (λ r. r.equation) rs) e) h)) (no_rule g j rs e (or_right (nat_eq r.equation e) (names (map (λ r. r.equation) rs) e) h))

player_distinct : (g : Game) (j : ℕ) (rs : List Rule) → AreApart (map (λ r. r.equation) rs) → AreDistinct (player_slots g j rs)
player_distinct g j [] a = tt
player_distinct g j (r ∷ rs) a = go (needs_own g j r.equation) (player_distinct g j rs a.1)
  where
    go : (b : Bool) → AreDistinct (player_slots g j rs) → AreDistinct (cond b ((j, r.equation) ∷ player_slots g j rs) (player_slots g j rs))
    go true d = (no_rule g j rs r.equation a.0, d)
    go false d = d

-- a slot of player j's rules is of player j
player_other : (g : Game) (j : ℕ) (rs : List Rule) (s : Slot) → nat_eq j s.0 ≡ false → has_slot s (player_slots g j rs) ≡ false
player_other g j [] s h = refl
player_other g j (r ∷ rs) s h = none_kept (needs_own g j r.equation) s (j, r.equation) (player_slots g j rs) (none_and (nat_eq j s.0) (nat_eq r.equation s.1) h) (player_other g j rs s h)

later_other : (g : Game) (at : ℕ) (ps : List Player) (s : Slot) → s.0 < at → has_slot s (slots_from g at ps) ≡ false
later_other g at [] s l = refl
later_other g at (pl ∷ pls) s l = both (player_slots g at pl.rules) (slots_from g (suc at) pls) (player_other g at pl.rules s (below at s.0 l)) (later_other g (suc at) pls s (omega arith))
  where
    below : (a b : ℕ) → b < a → nat_eq a b ≡ false
    below a b h = go (decided (nat_eq a b))
      where
        go : (nat_eq a b ≡ true) ⊎ (nat_eq a b ≡ false) → nat_eq a b ≡ false
        go (inl q) = absurd (let e = eqb-true a b q in omega arith)
        go (inr q) = q

    both : (us ts : List Slot) → has_slot s us ≡ false → has_slot s ts ≡ false → has_slot s (us ++ ts) ≡ false
    both [] ts h k = k
    both (u ∷ us) ts h k = neither (same_slot u s) (has_slot s (us ++ ts)) (or_left (same_slot u s) (has_slot s us) h) (both us ts (or_right (same_slot u s) (has_slot s us) h) k)

pub slots_distinct : (g : Game) (at : ℕ) (ps : List Player) → EachPlayer (λ j pl. AreApart (map (λ r. r.equation) pl.rules)) at ps → AreDistinct (slots_from g at ps)
slots_distinct g at [] a = tt
slots_distinct g at (pl ∷ pls) a = append_distinct (player_slots g at pl.rules) (slots_from g (suc at) pls) (player_distinct g at pl.rules a.0) (slots_distinct g (suc at) pls a.1) apart
  where
    apart : (s : Slot) → has_slot s (player_slots g at pl.rules) ≡ true → has_slot s (slots_from g (suc at) pls) ≡ false
    apart s m = go (decided (nat_eq at s.0))
      where
        go : (nat_eq at s.0 ≡ true) ⊎ (nat_eq at s.0 ≡ false) → has_slot s (slots_from g (suc at) pls) ≡ false
        go (inl q) = later_other g (suc at) pls s (let e = eqb-true at s.0 q in omega arith)
        go (inr q) = absurd (false≢true (sym (player_other g at pl.rules s q) ∙ m))

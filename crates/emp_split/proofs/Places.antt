-- The places of multipliers among the slots.
use Rattle.std.proofs.Common.{◌≡◌, ℕ, suc, ℤ, Bool, true, false, ◌||◌, ◌&&◌, cond, nat_eq, is_none, List, [], ◌∷◌, ◌++◌, map, None, refl, sym, ap, ap₂, subst, ◌∙◌}
use Rattle.std.proofs.lemmas.Bool.{eqb-true, false≢true}
use Rattle.emp_algebra.specs.Vector.{cell}
use Rattle.emp_game.specs.Game.{Rule, Player, names}
use Rattle.emp_game.proofs.Slopes.{eqb_refl}
use Rattle.emp_split.specs.Games.{Game, EachPlayer, has_rule, dual_of}
use Rattle.emp_split.specs.Numbers.{first_with, holder, needs_own, Slot, player_slots, slots_from, slots, index_of}
use Rattle.emp_split.proofs.Each.{each, each_both, or_first, or_second, some_has, each_has, Found, at_first}

-- ---- a slot in a list
abbrev pub same_slot : Slot → Slot → Bool
same_slot t s = nat_eq t.0 s.0 && nat_eq t.1 s.1

abbrev pub has_slot : Slot → List Slot → Bool
has_slot s [] = false
has_slot s (t ∷ ts) = same_slot t s || has_slot s ts

and_left : (b c : Bool) → b && c ≡ true → b ≡ true
and_left true c h = refl
and_left false c h = absurd (false≢true h)

and_right : (b c : Bool) → b && c ≡ true → c ≡ true
and_right true c h = h
and_right false c h = absurd (false≢true h)

-- the number of a slot stands where the slot does
pub index_there : (f : ℕ → ℕ → ℤ) (s : Slot) (ts : List Slot) → has_slot s ts ≡ true → cell (map (λ t. f t.0 t.1) ts) (index_of s ts) ≡ f s.0 s.1
index_there f s [] h = absurd (false≢true h)
index_there f s (t ∷ ts) h = go (same_slot t s) refl (λ k. index_there f s ts k)
  where
    go : (b : Bool) → same_slot t s ≡ b → (has_slot s ts ≡ true → cell (map (λ t. f t.0 t.1) ts) (index_of s ts) ≡ f s.0 s.1) → cell (map (λ t. f t.0 t.1) (t ∷ ts)) (index_of s (t ∷ ts)) ≡ f s.0 s.1
    go true q rest =
        subst (λ b. cell (map (λ t. f t.0 t.1) (t ∷ ts)) (cond b 0 (suc (index_of s ts))) ≡ f s.0 s.1) (sym q) (ap₂ (λ i e. f i e) (eqb-true t.0 s.0 (and_left (nat_eq t.0 s.0) (nat_eq t.1 s.1) q)) (eqb-true t.1 s.1 (and_right (nat_eq t.0 s.0) (nat_eq t.1 s.1) q)))
    go false q rest =
        subst (λ b. cell (map (λ t. f t.0 t.1) (t ∷ ts)) (cond b 0 (suc (index_of s ts))) ≡ f s.0 s.1) (sym q) (rest (sym (ap (λ b. b || has_slot s ts) q) ∙ h))

slot_left : (s : Slot) (us ts : List Slot) → has_slot s us ≡ true → has_slot s (us ++ ts) ≡ true
slot_left s [] ts h = absurd (false≢true h)
slot_left s (u ∷ us) ts h = go (same_slot u s) refl (λ k. slot_left s us ts k)
  where
    go : (b : Bool) → same_slot u s ≡ b → (has_slot s us ≡ true → has_slot s (us ++ ts) ≡ true) → has_slot s (u ∷ (us ++ ts)) ≡ true
    go true q rest = or_first (same_slot u s) (has_slot s (us ++ ts)) q
    go false q rest = or_second (same_slot u s) (has_slot s (us ++ ts)) (rest (sym (ap (λ b. b || has_slot s us) q) ∙ h))

slot_right : (s : Slot) (us ts : List Slot) → has_slot s ts ≡ true → has_slot s (us ++ ts) ≡ true
slot_right s [] ts h = h
slot_right s (u ∷ us) ts h = or_second (same_slot u s) (has_slot s (us ++ ts)) (slot_right s us ts h)

-- ---- the slots of a player's rules
slot_kept : (b : Bool) (s t : Slot) (ts : List Slot) → has_slot s ts ≡ true → has_slot s (cond b (t ∷ ts) ts) ≡ true
slot_kept true s t ts h = or_second (same_slot t s) (has_slot s ts) h
slot_kept false s t ts h = h

own_slot : (g : Game) (j : ℕ) (rs : List Rule) (e : ℕ) → has_rule rs e ≡ true → needs_own g j e ≡ true → has_slot (j, e) (player_slots g j rs) ≡ true
own_slot g j [] e h n = absurd (false≢true h)
own_slot g j (r ∷ rs) e h n = go (nat_eq r.equation e) refl (λ k. own_slot g j rs e k n)
  where
    go : (b : Bool) → nat_eq r.equation e ≡ b → (has_rule rs e ≡ true → has_slot (j, e) (player_slots g j rs) ≡ true) → has_slot (j, e) (player_slots g j (r ∷ rs)) ≡ true
    go true q rest =
        let own : needs_own g j r.equation ≡ true = ap (needs_own g j) (eqb-true r.equation e q) ∙ n in
        subst (λ b. has_slot (j, e) (cond b ((j, r.equation) ∷ player_slots g j rs) (player_slots g j rs)) ≡ true) (sym own) (or_first (nat_eq j j && nat_eq r.equation e) (has_slot (j, e) (player_slots g j rs)) (ap₂ (λ b c. b && c) (eqb_refl j) q))
    go false q rest = slot_kept (needs_own g j r.equation) (j, e) (j, r.equation) (player_slots g j rs) (rest (sym (ap (λ b. b || has_rule rs e) q) ∙ h))

abbrev HasOwn : Game → List Slot → ℕ → Player → Type 0
HasOwn g ts j pl = (e : ℕ) → has_rule pl.rules e ≡ true → needs_own g j e ≡ true → has_slot (j, e) ts ≡ true

own_slots : (g : Game) (j : ℕ) (ps : List Player) → EachPlayer (HasOwn g (slots_from g j ps)) j ps
own_slots g j [] = tt
own_slots g j (pl ∷ pls) = (
  λ e h n. slot_left (j, e) (player_slots g j pl.rules) (slots_from g (suc j) pls) (own_slot g j pl.rules e h n),
  each (HasOwn g (slots_from g (suc j) pls)) (HasOwn g (slots_from g j (pl ∷ pls))) (λ i q f e h n. slot_right (i, e) (player_slots g j pl.rules) (slots_from g (suc j) pls) (f e h n)) (suc j) pls (own_slots g (suc j) pls),
)

-- ---- the slot of the holder
pub holder_first : (g : Game) (j e : ℕ) → names g.visols e ≡ true → holder g j e ≡ first_with 0 g.players e
holder_first g j e v = ap (λ b. cond b (first_with 0 g.players e) j) v

pub holder_self : (g : Game) (j e : ℕ) → names g.visols e ≡ false → holder g j e ≡ j
holder_self g j e v = ap (λ b. cond b (first_with 0 g.players e) j) v

owns_it : (g : Game) (j e : ℕ) → dual_of g.duals e ≡ None → holder g j e ≡ j → needs_own g j e ≡ true
owns_it g j e n h = ap₂ (λ b c. b && c) (ap is_none n) (ap (λ i. nat_eq i j) h ∙ eqb_refl j)

abbrev pub HolderHas : Game → ℕ → Player → Type 0
HolderHas g j pl = (e : ℕ) → has_rule pl.rules e ≡ true → dual_of g.duals e ≡ None → has_slot (holder g j e, e) (slots g) ≡ true

pub holders_have : (g : Game) → EachPlayer (HolderHas g) 0 g.players
holders_have g =
    each (λ j pl. HasOwn g (slots g) j pl × ((e : ℕ) → has_rule pl.rules e ≡ true → some_has g.players e ≡ true)) (HolderHas g) by_visol 0 g.players
    (each_both (HasOwn g (slots g)) (λ j pl. (e : ℕ) → has_rule pl.rules e ≡ true → some_has g.players e ≡ true) 0 g.players (own_slots g 0 g.players) (each_has 0 g.players))
  where
    first : (j e : ℕ) → names g.visols e ≡ true → dual_of g.duals e ≡ None → Found (HasOwn g (slots g)) (first_with 0 g.players e) e → has_slot (holder g j e, e) (slots g) ≡ true
    first j e v n f =
        let i = first_with 0 g.players e in
        subst (λ k. has_slot (k, e) (slots g) ≡ true) (sym (holder_first g j e v)) (f.holds e f.has (owns_it g i e n (holder_first g i e v)))

    by_visol : (j : ℕ) (pl : Player) → HasOwn g (slots g) j pl × ((e : ℕ) → has_rule pl.rules e ≡ true → some_has g.players e ≡ true) → HolderHas g j pl
    by_visol j pl f e h n = go (names g.visols e) refl
      where
        go : (b : Bool) → names g.visols e ≡ b → has_slot (holder g j e, e) (slots g) ≡ true
        go true v = first j e v n (at_first (HasOwn g (slots g)) 0 g.players e (own_slots g 0 g.players) (f.1 e h))
        go false v =
            let s = holder_self g j e v in
            subst (λ k. has_slot (k, e) (slots g) ≡ true) (sym s) (f.0 e h (owns_it g j e n s))

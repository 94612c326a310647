-- A point that solves a game has numbers that split it, and the coordinates of one that is split solve the game.
use Rattle.std.proofs.Common.{◌≡◌, ℕ, zero, suc, ◌+◌, ℤ, pos, ◌*ℤ◌, ◌<ℤ◌, Bool, true, false, ◌||◌, nat_eq, List, [], ◌∷◌, ◌++◌, map, take, length, Option, Some, None, arith, refl, sym, ap, ap₂, subst, ◌∙◌, length-append}
use Rattle.std.proofs.lemmas.Int.{ints}
use Rattle.std.proofs.lemmas.Bool.{eqb-true, false≢true}
use Rattle.std.specs.Prelude.{is_some}
use Rattle.std.proofs.lemmas.List.{get_or-take, get_or_append_left, get_or-append-add}
use Rattle.emp_algebra.proofs.Ring.{var, ◌⊗◌, by_ring}
use Rattle.emp_algebra.proofs.Laws.{mul_pos, one-*ℤ}
use Rattle.emp_algebra.proofs.Vectors.{cell-scale, length-scale}
use Rattle.emp_algebra.specs.Vector.{cell, scale}
use Rattle.emp_game.specs.Game.{Rule, Player, names, AreApart, IsPlayer}
use Rattle.emp_game.specs.Solved.{Obeys, IsSolved, AreMultipliers, IsConvex}
use Rattle.emp_game.proofs.Sound.{multipliers_solve}
use Rattle.emp_split.specs.Games.{Game, coordinates, EachPlayer, has_rule, dual_of, IsGame, IsConvexGame}
use Rattle.emp_split.specs.Numbers.{first_with, holder, Slot, slots, index_of, place_by, place, multipliers_at, is_priced}
use Rattle.emp_split.specs.Meaning.{LeaderObeys, IsAdmissible, IsSplit}
use Rattle.emp_split.specs.Laws.{Lifted}
use Rattle.emp_split.proofs.Each.{each, each_both, some_has, each_has, Found, at_first}
use Rattle.emp_split.proofs.Places.{index_there, holder_first, holder_self, HolderHas, holders_have}
use Rattle.emp_split.proofs.Scaling.{scale_one, obeys_scaled, leader_scaled, respelled}
use Rattle.emp_split.proofs.Complete.{map_rules, Completed, completed}

-- ---- sound
pub holder_twice : (g : Game) (j e : ℕ) → holder g (holder g j e) e ≡ holder g j e
holder_twice g j e = go (names g.visols e) refl
  where
    go : (b : Bool) → names g.visols e ≡ b → holder g (holder g j e) e ≡ holder g j e
    go true v = holder_first g (holder g j e) e v ∙ sym (holder_first g j e v)
    go false v = holder_self g (holder g j e) e v

pub split_is_admissible : (g : Game) (d : ℤ) (nums : List ℤ) → IsGame g → pos 0 <ℤ d → IsSplit g d nums → IsAdmissible g d (take (coordinates g) nums)
split_is_admissible g d nums kept p s = record {
  count = front_count (coordinates g) nums (length (slots g)) s.count;
  leads = s.leads;
  solved = s.solved;
  times = pos 1;
  number = λ j e. cell nums (place g j e);
  prices = record {
    positive = omega (arith, ints);
    multipliers =
        each (λ j pl. AreMultipliers g.ranges pl d (take (coordinates g) nums) (multipliers_at g j pl.rules nums))
        (λ j pl. is_priced g pl.rules ≡ true → AreMultipliers g.ranges pl (pos 1 *ℤ d) (scale (pos 1) (take (coordinates g) nums)) (map (λ r. cell nums (place g j r.equation)) pl.rules))
        (λ j pl m _. respelled g.ranges pl (sym (one-*ℤ d)) (sym (scale_one (take (coordinates g) nums))) refl m) 0 g.players s.multipliers;
    duals = every (λ j pl. (e k : ℕ) → has_rule pl.rules e ≡ true → dual_of g.duals e ≡ Some k → cell nums (place g j e) ≡ pos 1 *ℤ cell (take (coordinates g) nums) k) 0 g.players (λ j pl e k _ q. ap (λ o. cell nums (place_by o (coordinates g + index_of (holder g j e, e) (slots g)))) q ∙ (sym (get_or-take (coordinates g) nums k (pos 0) (kept.duals k e q)) ∙ sym (one-*ℤ (cell (take (coordinates g) nums) k))));
    shared = every (λ j pl. (e : ℕ) → has_rule pl.rules e ≡ true → cell nums (place g j e) ≡ cell nums (place g (holder g j e) e)) 0 g.players (λ j pl e _. ap (λ i. cell nums (place_by (dual_of g.duals e) (coordinates g + index_of (i, e) (slots g)))) (sym (holder_twice g j e)));
  };
}
  where
    front_count : (n : ℕ) (xs : List ℤ) (m : ℕ) → length xs ≡ n + m → length (take n xs) ≡ n
    front_count zero xs m h = refl
    front_count (suc n) [] m h = absurd (omega arith)
    front_count (suc n) (x ∷ xs) m h = ap suc (front_count n xs m (omega arith))

    every : (P : ℕ → Player → Type 0) (j : ℕ) (ps : List Player) → ((i : ℕ) (pl : Player) → P i pl) → EachPlayer P j ps
    every P j [] f = tt
    every P j (pl ∷ pls) f = (f j pl, every P (suc j) pls f)

-- ---- lifts
pub front_is : (n : ℕ) (xs zs : List ℤ) → length xs ≡ n → take n (xs ++ zs) ≡ xs
front_is zero [] zs h = refl
front_is zero (x ∷ xs) zs h = absurd (omega arith)
front_is (suc n) [] zs h = absurd (omega arith)
front_is (suc n) (x ∷ xs) zs h = ap (λ (ys : List ℤ). x ∷ ys) (front_is n xs zs (omega arith))

pub map_count : (f : ℕ → ℕ → ℤ) (ts : List Slot) → length (map (λ t. f t.0 t.1) ts) ≡ length ts
map_count f [] = refl
map_count f (t ∷ ts) = ap suc (map_count f ts)

-- a rule with a price makes its player priced
priced_dual : (g : Game) (rs : List Rule) (e k : ℕ) → has_rule rs e ≡ true → dual_of g.duals e ≡ Some k → is_priced g rs ≡ true
priced_dual g [] e k h q = h
priced_dual g (r ∷ rs) e k h q = go (nat_eq r.equation e) refl (λ t. priced_dual g rs e k t q)
  where
    later : (b : Bool) → is_priced g rs ≡ true → b || is_priced g rs ≡ true
    later true t = refl
    later false t = t

    go : (b : Bool) → nat_eq r.equation e ≡ b → (has_rule rs e ≡ true → is_priced g rs ≡ true) → is_priced g (r ∷ rs) ≡ true
    go true s rest = ap (λ o. (is_some o || names g.visols r.equation) || is_priced g rs) (ap (dual_of g.duals) (eqb-true r.equation e s) ∙ q)
    go false s rest = later (is_some (dual_of g.duals r.equation) || names g.visols r.equation) (rest (sym (ap (λ b. b || has_rule rs e) s) ∙ h))

priced_visol : (g : Game) (rs : List Rule) (e : ℕ) → has_rule rs e ≡ true → names g.visols e ≡ true → is_priced g rs ≡ true
priced_visol g [] e h q = h
priced_visol g (r ∷ rs) e h q = go (nat_eq r.equation e) refl (λ t. priced_visol g rs e t q)
  where
    first : (b c : Bool) → c ≡ true → (b || c) || is_priced g rs ≡ true
    first true c t = refl
    first false true t = refl
    first false false t = absurd (false≢true t)

    later : (b : Bool) → is_priced g rs ≡ true → b || is_priced g rs ≡ true
    later true t = refl
    later false t = t

    go : (b : Bool) → nat_eq r.equation e ≡ b → (has_rule rs e ≡ true → is_priced g rs ≡ true) → is_priced g (r ∷ rs) ≡ true
    go true s rest = first (is_some (dual_of g.duals r.equation)) (names g.visols r.equation) (ap (names g.visols) (eqb-true r.equation e s) ∙ q)
    go false s rest = later (is_some (dual_of g.duals r.equation) || names g.visols r.equation) (rest (sym (ap (λ b. b || has_rule rs e) s) ∙ h))

module _ (g : Game) (kept : IsGame g) (d : ℤ) (xs : List ℤ) (p : pos 0 <ℤ d) (a : IsAdmissible g d xs) (c : Completed g d xs a.times a.number 0 g.players) where
  abbrev by : ℤ
  by = c.grown *ℤ a.times

  by_positive : pos 0 <ℤ by
  by_positive = mul_pos c.grown a.times c.positive a.prices.positive

  abbrev lifted_nums : List ℤ
  lifted_nums = scale by xs ++ map (λ t. c.all t.0 t.1) (slots g)

  count : length (scale by xs) ≡ coordinates g
  count = length-scale by xs ∙ a.count

  -- what is known of each player
  abbrev Known : ℕ → Player → Type 0
  Known j pl = ((is_priced g pl.rules ≡ true → (e : ℕ) → c.all j e ≡ c.grown *ℤ a.number j e) × HolderHas g j pl) × (((e k : ℕ) → has_rule pl.rules e ≡ true → dual_of g.duals e ≡ Some k → a.number j e ≡ a.times *ℤ cell xs k) × (((e : ℕ) → has_rule pl.rules e ≡ true → a.number j e ≡ a.number (holder g j e) e) × ((e : ℕ) → has_rule pl.rules e ≡ true → some_has g.players e ≡ true)))

  known : EachPlayer Known 0 g.players
  known =
      each_both (λ j pl. (is_priced g pl.rules ≡ true → (e : ℕ) → c.all j e ≡ c.grown *ℤ a.number j e) × HolderHas g j pl)
      (λ j pl. ((e k : ℕ) → has_rule pl.rules e ≡ true → dual_of g.duals e ≡ Some k → a.number j e ≡ a.times *ℤ cell xs k) × (((e : ℕ) → has_rule pl.rules e ≡ true → a.number j e ≡ a.number (holder g j e) e) × ((e : ℕ) → has_rule pl.rules e ≡ true → some_has g.players e ≡ true))) 0 g.players
      (each_both (λ j pl. is_priced g pl.rules ≡ true → (e : ℕ) → c.all j e ≡ c.grown *ℤ a.number j e) (HolderHas g) 0 g.players c.priced (holders_have g))
      (each_both (λ j pl. (e k : ℕ) → has_rule pl.rules e ≡ true → dual_of g.duals e ≡ Some k → a.number j e ≡ a.times *ℤ cell xs k) (λ j pl. ((e : ℕ) → has_rule pl.rules e ≡ true → a.number j e ≡ a.number (holder g j e) e) × ((e : ℕ) → has_rule pl.rules e ≡ true → some_has g.players e ≡ true)) 0 g.players a.prices.duals
      (each_both (λ j pl. (e : ℕ) → has_rule pl.rules e ≡ true → a.number j e ≡ a.number (holder g j e) e) (λ j pl. (e : ℕ) → has_rule pl.rules e ≡ true → some_has g.players e ≡ true) 0 g.players a.prices.shared (each_has 0 g.players)))

  -- the holder's number is the player's own
  held : (j : ℕ) (pl : Player) → Known j pl → (e : ℕ) → has_rule pl.rules e ≡ true → c.all (holder g j e) e ≡ c.all j e
  held j pl k e h = go (names g.visols e) refl
    where
      shared : names g.visols e ≡ true → Found (λ i q. is_priced g q.rules ≡ true → (f : ℕ) → c.all i f ≡ c.grown *ℤ a.number i f) (first_with 0 g.players e) e → c.all (holder g j e) e ≡ c.all j e
      shared v f =
          ap (λ i. c.all i e) (holder_first g j e v)
          ∙ (f.holds (priced_visol g f.player.rules e f.has v) e
          ∙ (ap (λ i. c.grown *ℤ a.number i e) (sym (holder_first g j e v)) ∙ (ap (λ z. c.grown *ℤ z) (sym (k.1.1.0 e h)) ∙ sym (k.0.0 (priced_visol g pl.rules e h v) e))))

      go : (b : Bool) → names g.visols e ≡ b → c.all (holder g j e) e ≡ c.all j e
      go true v = shared v (at_first (λ i q. is_priced g q.rules ≡ true → (f : ℕ) → c.all i f ≡ c.grown *ℤ a.number i f) 0 g.players e c.priced (k.1.1.1 e h))
      go false v = ap (λ i. c.all i e) (holder_self g j e v)

  -- the multiplier of a player's rule stands at its place
  placed : (j : ℕ) (pl : Player) → Known j pl → (e : ℕ) → has_rule pl.rules e ≡ true → cell lifted_nums (place g j e) ≡ c.all j e
  placed j pl k e h = go (dual_of g.duals e) refl
    where
      at : ℕ
      at = index_of (holder g j e, e) (slots g)

      go : (o : Option ℕ) → dual_of g.duals e ≡ o → cell lifted_nums (place g j e) ≡ c.all j e
      go (Some i) q =
          ap (λ o. cell lifted_nums (place_by o (coordinates g + at))) q
          ∙ (get_or_append_left (scale by xs) (map (λ t. c.all t.0 t.1) (slots g)) (pos 0) i (let l = kept.duals i e q in omega (arith, count))
          ∙ (cell-scale by xs i
          ∙ (by_ring (c.grown ∷ a.times ∷ cell xs i ∷ []) (var 0 ⊗ var 1 ⊗ var 2) (var 0 ⊗ (var 1 ⊗ var 2)) refl ∙ (ap (λ z. c.grown *ℤ z) (sym (k.1.0 e i h q)) ∙ sym (k.0.0 (priced_dual g pl.rules e i h q) e)))))
      go None q =
          ap (λ o. cell lifted_nums (place_by o (coordinates g + at))) q
          ∙ (ap (λ n. cell lifted_nums (n + at)) (sym count)
          ∙ (get_or-append-add (scale by xs) (map (λ t. c.all t.0 t.1) (slots g)) at (pos 0) ∙ (index_there c.all (holder g j e, e) (slots g) (k.0.1 e h q) ∙ held j pl k e h)))

  abbrev Split : ℕ → Player → Type 0
  Split j pl = AreMultipliers g.ranges pl (by *ℤ d) (take (coordinates g) lifted_nums) (multipliers_at g j pl.rules lifted_nums)

  ahead : take (coordinates g) lifted_nums ≡ scale by xs
  ahead = front_is (coordinates g) (scale by xs) (map (λ t. c.all t.0 t.1) (slots g)) count

  multipliers : EachPlayer Split 0 g.players
  multipliers =
      each (λ j pl. AreMultipliers g.ranges pl (by *ℤ d) (scale by xs) (map (λ r. c.all j r.equation) pl.rules) × Known j pl) Split
      (λ j pl m. respelled g.ranges pl refl (sym ahead) (sym (map_rules pl.rules (λ e. cell lifted_nums (place g j e)) (c.all j) (placed j pl m.1))) m.0) 0 g.players
      (each_both (λ j pl. AreMultipliers g.ranges pl (by *ℤ d) (scale by xs) (map (λ r. c.all j r.equation) pl.rules)) Known 0 g.players c.multipliers known)

  solved : EachPlayer (λ j pl. IsSolved g.ranges pl (by *ℤ d) (take (coordinates g) lifted_nums)) 0 g.players
  solved =
      each (λ j pl. IsSolved g.ranges pl d xs × Split j pl) (λ j pl. IsSolved g.ranges pl (by *ℤ d) (take (coordinates g) lifted_nums))
      (λ j pl m. multipliers_solve g.ranges pl (by *ℤ d) (take (coordinates g) lifted_nums) (multipliers_at g j pl.rules lifted_nums) (mul_pos by d by_positive p) (subst (λ ys. Obeys pl.rules (by *ℤ d) ys) (sym ahead) (obeys_scaled by pl.rules d xs by_positive m.0.feasible.obeys)) m.1) 0 g.players
      (each_both (λ j pl. IsSolved g.ranges pl d xs) Split 0 g.players a.solved multipliers)

  pub lifted : Lifted g d xs
  lifted = record {
    times = by;
    positive = by_positive;
    nums = lifted_nums;
    front = ahead;
    split = record {
      count = length-append (scale by xs) (map (λ t. c.all t.0 t.1) (slots g)) ∙ ap₂ (λ i j. i + j) count (map_count c.all (slots g));
      leads = subst (λ ys. LeaderObeys g g.leader (by *ℤ d) ys) (sym ahead) (leader_scaled g g.leader by d xs by_positive a.leads);
      solved = solved;
      multipliers = multipliers;
    };
  }

pub admissible_lifts : (g : Game) (d : ℤ) (xs : List ℤ) → IsGame g → IsConvexGame g → pos 0 <ℤ d → IsAdmissible g d xs → Lifted g d xs
admissible_lifts g d xs kept convex p a =
    lifted g kept d xs p a
    (completed g d xs a.times a.number p a.prices.positive 0 g.players
    (each_both (λ j pl. IsPlayer (coordinates g) pl × AreApart (map (λ r. r.equation) pl.rules)) (λ j pl. (IsConvex pl × IsSolved g.ranges pl d xs) × (is_priced g pl.rules ≡ true → AreMultipliers g.ranges pl (a.times *ℤ d) (scale a.times xs) (map (λ r. a.number j r.equation) pl.rules))) 0 g.players
    (each_both (λ j pl. IsPlayer (coordinates g) pl) (λ j pl. AreApart (map (λ r. r.equation) pl.rules)) 0 g.players kept.players kept.apart)
    (each_both (λ j pl. IsConvex pl × IsSolved g.ranges pl d xs) (λ j pl. is_priced g pl.rules ≡ true → AreMultipliers g.ranges pl (a.times *ℤ d) (scale a.times xs) (map (λ r. a.number j r.equation) pl.rules)) 0 g.players
    (each_both (λ j pl. IsConvex pl) (λ j pl. IsSolved g.ranges pl d xs) 0 g.players convex a.solved) a.prices.multipliers)))

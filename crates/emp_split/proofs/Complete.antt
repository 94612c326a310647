-- Prices for some players, completed to multipliers of all: by the law of one player, over one denominator.
use Rattle.std.proofs.Common.{◌≡◌, ℕ, suc, ◌<◌, ℤ, pos, ◌*ℤ◌, ◌<ℤ◌, Bool, true, false, ◌||◌, cond, nat_eq, List, [], ◌∷◌, map, length, arith, refl, sym, ap, ap₂, ◌∙◌}
use Rattle.std.proofs.lemmas.Int.{ints}
use Rattle.std.proofs.lemmas.Bool.{eqb-true, false≢true}
use Rattle.emp_algebra.proofs.Ring.{var, ◌⊗◌, by_ring}
use Rattle.emp_algebra.proofs.Laws.{mul_pos}
use Rattle.emp_algebra.specs.Vector.{scale}
use Rattle.emp_game.specs.Game.{Rule, Player, names, AreApart, IsPlayer}
use Rattle.emp_game.specs.Solved.{IsSolved, AreSigned, AreMultipliers, IsConvex}
use Rattle.emp_game.specs.Laws.{Multiplied}
use Rattle.emp_game.proofs.Slopes.{eqb_refl}
use Rattle.emp_game.proofs.Multiplied.{solved_has_multiplied}
use Rattle.emp_split.specs.Games.{Game, coordinates, EachPlayer, has_rule}
use Rattle.emp_split.specs.Numbers.{is_priced}
use Rattle.emp_split.proofs.Each.{each_above}
use Rattle.emp_split.proofs.Scaling.{scale_scale, multipliers_scaled, respelled}

-- ---- numbers by equation
abbrev pub lookup : List Rule → List ℤ → ℕ → ℤ
lookup [] us e = pos 0
lookup (r ∷ rs) [] e = pos 0
lookup (r ∷ rs) (u ∷ us) e = cond (nat_eq r.equation e) u (lookup rs us e)

rule_named : (rs : List Rule) (e : ℕ) → has_rule rs e ≡ true → names (map (λ r. r.equation) rs) e ≡ true
rule_named [] e h = h
rule_named (r ∷ rs) e h = go (nat_eq r.equation e) refl (λ k. rule_named rs e k)
  where
    go : (b : Bool) → nat_eq r.equation e ≡ b → (has_rule rs e ≡ true → names (map (λ r. r.equation) rs) e ≡ true) → nat_eq r.equation e || names (map (λ r. r.equation) rs) e ≡ true
    go true q rest = ap (λ b. b || names (map (λ r. r.equation) rs) e) q
    go false q rest = ap (λ b. b || names (map (λ r. r.equation) rs) e) q ∙ rest (sym (ap (λ b. b || has_rule rs e) q) ∙ h)

pub self_rule : (r : Rule) (rs : List Rule) → has_rule (r ∷ rs) r.equation ≡ true
self_rule r rs = ap (λ b. b || has_rule rs r.equation) (eqb_refl r.equation)

pub later_rule : (r : Rule) (rs : List Rule) (e : ℕ) → has_rule rs e ≡ true → has_rule (r ∷ rs) e ≡ true
later_rule r rs e h = go (nat_eq r.equation e)
  where
    go : (b : Bool) → b || has_rule rs e ≡ true
    go true = refl
    go false = h

lookup_each : (rs : List Rule) (us : List ℤ) (f : ℕ → ℤ) → AreApart (map (λ r. r.equation) rs) → length us ≡ length rs → ((e : ℕ) → has_rule rs e ≡ true → f e ≡ lookup rs us e) → map (λ r. f r.equation) rs ≡ us
lookup_each [] [] f a l h = refl
lookup_each [] (u ∷ us) f a l h = absurd (omega arith)
lookup_each (r ∷ rs) [] f a l h = absurd (omega arith)
lookup_each (r ∷ rs) (u ∷ us) f a l h =
    ap₂ (λ (y : ℤ) (ys : List ℤ). y ∷ ys)
    (h r.equation (self_rule r rs) ∙ ap (λ b. cond b u (lookup rs us r.equation)) (eqb_refl r.equation))
    (lookup_each rs us f a.1 (omega arith) (λ e k. h e (later_rule r rs e k) ∙ other e k (nat_eq r.equation e) refl))
  where
    other : (e : ℕ) → has_rule rs e ≡ true → (b : Bool) → nat_eq r.equation e ≡ b → cond (nat_eq r.equation e) u (lookup rs us e) ≡ lookup rs us e
    other e k true q = absurd (false≢true (sym a.0 ∙ (ap (names (map (λ r. r.equation) rs)) (eqb-true r.equation e q) ∙ rule_named rs e k)))
    other e k false q = ap (λ b. cond b u (lookup rs us e)) q

signed_count : (rs : List Rule) (us : List ℤ) (d : ℤ) (xs : List ℤ) → AreSigned rs us d xs → length us ≡ length rs
signed_count [] [] d xs h = refl
signed_count [] (u ∷ us) d xs h = absurd h
signed_count (r ∷ rs) [] d xs h = absurd h
signed_count (r ∷ rs) (u ∷ us) d xs h = ap suc (signed_count rs us d xs h.2)

-- numbers of rules with a common factor
pub map_rules : (rs : List Rule) (f h : ℕ → ℤ) → ((e : ℕ) → has_rule rs e ≡ true → f e ≡ h e) → map (λ r. f r.equation) rs ≡ map (λ r. h r.equation) rs
map_rules [] f h k = refl
map_rules (r ∷ rs) f h k = ap₂ (λ (y : ℤ) (ys : List ℤ). y ∷ ys) (k r.equation (self_rule r rs)) (map_rules rs f h (λ e l. k e (later_rule r rs e l)))

scale_rules : (c : ℤ) (rs : List Rule) (f : ℕ → ℤ) → scale c (map (λ r. f r.equation) rs) ≡ map (λ r. c *ℤ f r.equation) rs
scale_rules c [] f = refl
scale_rules c (r ∷ rs) f = ap (λ (ys : List ℤ). (c *ℤ f r.equation) ∷ ys) (scale_rules c rs f)

-- ---- completed numbers
-- the priced players keep their prices, times `grown`
pub record Completed (g : Game) (d : ℤ) (xs : List ℤ) (times : ℤ) (number : ℕ → ℕ → ℤ) (at : ℕ) (ps : List Player) : Type 0 where
  pub grown : ℤ
  pub positive : pos 0 <ℤ grown
  pub all : ℕ → ℕ → ℤ
  pub multipliers : EachPlayer (λ j pl. AreMultipliers g.ranges pl (grown *ℤ times *ℤ d) (scale (grown *ℤ times) xs) (map (λ r. all j r.equation) pl.rules)) at ps
  pub priced : EachPlayer (λ j pl. is_priced g pl.rules ≡ true → (e : ℕ) → all j e ≡ grown *ℤ number j e) at ps

module _ (g : Game) (d : ℤ) (xs : List ℤ) (times : ℤ) (number : ℕ → ℕ → ℤ) where
  -- the head's numbers, and those of the others with a factor
  abbrev joined : ℕ → ℤ → (ℕ → ℤ) → (ℕ → ℕ → ℤ) → ℕ → ℕ → ℤ
  joined at h own rest j e = cond (nat_eq j at) (own e) (h *ℤ rest j e)

  here : (at : ℕ) (h : ℤ) (own : ℕ → ℤ) (rest : ℕ → ℕ → ℤ) (e : ℕ) → joined at h own rest at e ≡ own e
  here at h own rest e = ap (λ b. cond b (own e) (h *ℤ rest at e)) (eqb_refl at)

  there : (at : ℕ) (h : ℤ) (own : ℕ → ℤ) (rest : ℕ → ℕ → ℤ) (j e : ℕ) → at < j → joined at h own rest j e ≡ h *ℤ rest j e
  there at h own rest j e l = go (nat_eq j at) refl
    where
      go : (b : Bool) → nat_eq j at ≡ b → joined at h own rest j e ≡ h *ℤ rest j e
      go true q = absurd (let s = eqb-true j at q in omega arith)
      go false q = ap (λ b. cond b (own e) (h *ℤ rest j e)) q

  join : (at : ℕ) (pl : Player) (pls : List Player) (c : Completed g d xs times number (suc at) pls) (h : ℤ) (own : ℕ → ℤ) → pos 0 <ℤ h → AreMultipliers g.ranges pl (h *ℤ c.grown *ℤ times *ℤ d) (scale (h *ℤ c.grown *ℤ times) xs) (map (λ r. own r.equation) pl.rules) → (is_priced g pl.rules ≡ true → (e : ℕ) → own e ≡ h *ℤ c.grown *ℤ number at e) → Completed g d xs times number at (pl ∷ pls)
  join at pl pls c h own p m k = record {
    grown = h *ℤ c.grown;
    positive = mul_pos h c.grown p c.positive;
    all = joined at h own c.all;
    multipliers = (
      respelled g.ranges pl refl refl (map_rules pl.rules own (joined at h own c.all at) (λ e _. sym (here at h own c.all e))) m,
      each_above (λ j q. AreMultipliers g.ranges q (c.grown *ℤ times *ℤ d) (scale (c.grown *ℤ times) xs) (map (λ r. c.all j r.equation) q.rules))
          (λ j q. AreMultipliers g.ranges q (h *ℤ c.grown *ℤ times *ℤ d) (scale (h *ℤ c.grown *ℤ times) xs) (map (λ r. joined at h own c.all j r.equation) q.rules)) at
          (λ j q l n. respelled g.ranges q (by_ring (h ∷ c.grown ∷ times ∷ d ∷ []) (var 0 ⊗ (var 1 ⊗ var 2 ⊗ var 3)) (var 0 ⊗ var 1 ⊗ var 2 ⊗ var 3) refl)
          (scale_scale h (c.grown *ℤ times) xs ∙ ap (λ z. scale z xs) (by_ring (h ∷ c.grown ∷ times ∷ []) (var 0 ⊗ (var 1 ⊗ var 2)) (var 0 ⊗ var 1 ⊗ var 2) refl))
          (scale_rules h q.rules (c.all j) ∙ map_rules q.rules (λ e. h *ℤ c.all j e) (joined at h own c.all j) (λ e _. sym (there at h own c.all j e l)))
          (multipliers_scaled g.ranges q h (c.grown *ℤ times *ℤ d) (scale (c.grown *ℤ times) xs) (map (λ r. c.all j r.equation) q.rules) p n)) (suc at) pls (omega arith) c.multipliers,
    );
    priced = (
      λ t e. here at h own c.all e ∙ k t e,
      each_above (λ j q. is_priced g q.rules ≡ true → (e : ℕ) → c.all j e ≡ c.grown *ℤ number j e) (λ j q. is_priced g q.rules ≡ true → (e : ℕ) → joined at h own c.all j e ≡ h *ℤ c.grown *ℤ number j e) at
          (λ j q l n t e. there at h own c.all j e l ∙ (ap (λ z. h *ℤ z) (n t e) ∙ by_ring (h ∷ c.grown ∷ number j e ∷ []) (var 0 ⊗ (var 1 ⊗ var 2)) (var 0 ⊗ var 1 ⊗ var 2) refl)) (suc at) pls (omega arith) c.priced,
    );
  }

  abbrev Ready : ℕ → Player → Type 0
  Ready j pl = (IsPlayer (coordinates g) pl × AreApart (map (λ r. r.equation) pl.rules)) × ((IsConvex pl × IsSolved g.ranges pl d xs) × (is_priced g pl.rules ≡ true → AreMultipliers g.ranges pl (times *ℤ d) (scale times xs) (map (λ r. number j r.equation) pl.rules)))

  pub completed : pos 0 <ℤ d → pos 0 <ℤ times → (at : ℕ) (ps : List Player) → EachPlayer Ready at ps → Completed g d xs times number at ps
  completed p t at [] h = record { grown = pos 1; positive = omega (arith, ints); all = λ j e. pos 0; multipliers = tt; priced = tt }
  completed p t at (pl ∷ pls) h = go (is_priced g pl.rules) refl (completed p t (suc at) pls h.1)
    where
      go : (b : Bool) → is_priced g pl.rules ≡ b → Completed g d xs times number (suc at) pls → Completed g d xs times number at (pl ∷ pls)
      go true q c =
          let u = pos 1 *ℤ c.grown in
          let u_pos = mul_pos (pos 1) c.grown (omega (arith, ints)) c.positive in
          join at pl pls c (pos 1) (λ e. u *ℤ number at e) (omega (arith, ints))
          (respelled g.ranges pl (by_ring (u ∷ times ∷ d ∷ []) (var 0 ⊗ (var 1 ⊗ var 2)) (var 0 ⊗ var 1 ⊗ var 2) refl) (scale_scale u times xs) (scale_rules u pl.rules (number at)) (multipliers_scaled g.ranges pl u (times *ℤ d) (scale times xs) (map (λ r. number at r.equation) pl.rules) u_pos (h.0.1.1 q)))
          (λ _ e. refl)
      go false q c = found (solved_has_multiplied g.ranges pl d xs h.0.0.0 h.0.1.0.0 p h.0.1.0.1)
        where
          found : Multiplied g.ranges pl d xs → Completed g d xs times number at (pl ∷ pls)
          found m =
              let u = c.grown *ℤ times in
              let u_pos = mul_pos c.grown times c.positive t in
              join at pl pls c m.times (λ e. u *ℤ lookup pl.rules m.numbers e) m.positive
              (respelled g.ranges pl (by_ring (c.grown ∷ times ∷ m.times ∷ d ∷ []) (var 0 ⊗ var 1 ⊗ (var 2 ⊗ var 3)) (var 2 ⊗ var 0 ⊗ var 1 ⊗ var 3) refl)
              (scale_scale u m.times xs ∙ ap (λ z. scale z xs) (by_ring (c.grown ∷ times ∷ m.times ∷ []) (var 0 ⊗ var 1 ⊗ var 2) (var 2 ⊗ var 0 ⊗ var 1) refl))
              (sym (ap (scale u) (lookup_each pl.rules m.numbers (lookup pl.rules m.numbers) h.0.0.1 (signed_count pl.rules m.numbers (m.times *ℤ d) (scale m.times xs) m.multipliers.signed) (λ e _. refl))) ∙ scale_rules u pl.rules (lookup pl.rules m.numbers))
              (multipliers_scaled g.ranges pl u (m.times *ℤ d) (scale m.times xs) m.numbers u_pos m.multipliers))
              (λ t e. absurd (false≢true (sym q ∙ t)))

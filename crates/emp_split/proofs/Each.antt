-- What holds of each player.
use Rattle.std.proofs.Common.{◌≡◌, ℕ, suc, ◌<◌, Bool, true, false, ◌||◌, cond, List, [], ◌∷◌, arith, refl, sym, ap, subst, ◌∙◌}
use Rattle.std.proofs.lemmas.Bool.{false≢true}
use Rattle.emp_game.specs.Game.{Player}
use Rattle.emp_split.specs.Games.{EachPlayer, has_rule}
use Rattle.emp_split.specs.Numbers.{first_with}

abbrev pub Claim : Type 1
Claim = ℕ → Player → Type 0

pub each : (P Q : ℕ → Player → Type 0) → ((j : ℕ) (pl : Player) → P j pl → Q j pl) → (j : ℕ) (ps : List Player) → EachPlayer P j ps → EachPlayer Q j ps
each P Q f j [] h = tt
each P Q f j (pl ∷ pls) h = (f j pl h.0, each P Q f (suc j) pls h.1)

pub each_both : (P Q : ℕ → Player → Type 0) (j : ℕ) (ps : List Player) → EachPlayer P j ps → EachPlayer Q j ps → EachPlayer (λ i pl. P i pl × Q i pl) j ps
each_both P Q j [] h k = tt
each_both P Q j (pl ∷ pls) h k = ((h.0, k.0), each_both P Q (suc j) pls h.1 k.1)

-- for players with numbers above i
pub each_above : (P Q : ℕ → Player → Type 0) (i : ℕ) → ((j : ℕ) (pl : Player) → i < j → P j pl → Q j pl) → (j : ℕ) (ps : List Player) → i < j → EachPlayer P j ps → EachPlayer Q j ps
each_above P Q i f j [] l h = tt
each_above P Q i f j (pl ∷ pls) l h = (f j pl l h.0, each_above P Q i f (suc j) pls (omega arith) h.1)

-- ---- the first player with a rule of an equation
abbrev pub some_has : List Player → ℕ → Bool
some_has [] e = false
some_has (pl ∷ pls) e = has_rule pl.rules e || some_has pls e

pub or_first : (b c : Bool) → b ≡ true → b || c ≡ true
or_first true c h = refl
or_first false c h = absurd (false≢true h)

pub or_second : (b c : Bool) → c ≡ true → b || c ≡ true
or_second true c h = refl
or_second false c h = h

pub each_has : (j : ℕ) (ps : List Player) → EachPlayer (λ i pl. (e : ℕ) → has_rule pl.rules e ≡ true → some_has ps e ≡ true) j ps
each_has j [] = tt
each_has j (pl ∷ pls) = (
  λ e h. or_first (has_rule pl.rules e) (some_has pls e) h,
  each (λ i q. (e : ℕ) → has_rule q.rules e ≡ true → some_has pls e ≡ true) (λ i q. (e : ℕ) → has_rule q.rules e ≡ true → some_has (pl ∷ pls) e ≡ true) (λ i q f e h. or_second (has_rule pl.rules e) (some_has pls e) (f e h)) (suc j) pls (each_has (suc j) pls),
)

pub record Found (P : ℕ → Player → Type 0) (i e : ℕ) : Type 0 where
  pub player : Player
  pub has : has_rule player.rules e ≡ true
  pub holds : P i player

pub at_first : (P : ℕ → Player → Type 0) (j : ℕ) (ps : List Player) (e : ℕ) → EachPlayer P j ps → some_has ps e ≡ true → Found P (first_with j ps e) e
at_first P j [] e h s = absurd (false≢true s)
at_first P j (pl ∷ pls) e h s = go (has_rule pl.rules e) refl (λ t. at_first P (suc j) pls e h.1 t)
  where
    go : (b : Bool) → has_rule pl.rules e ≡ b → (some_has pls e ≡ true → Found P (first_with (suc j) pls e) e) → Found P (first_with j (pl ∷ pls) e) e
    go true q rest = subst (λ b. Found P (cond b j (first_with (suc j) pls e)) e) (sym q) (record { player = pl; has = q; holds = h.0 })
    go false q rest = subst (λ b. Found P (cond b j (first_with (suc j) pls e)) e) (sym q) (rest (sym (ap (λ b. b || some_has pls e) q) ∙ s))

-- A loop of chosen exchanges ends: the form for a recursion that takes one unit of work before each turn.
use Rattle.std.proofs.Common.{◌∙◌, ap, ◌≡◌, ℕ, zero, suc, ◌^◌, ◌<◌, ◌≤◌, Option, Some, None, arith, refl}
use Rattle.emp_turns.specs.Table.{Table}
use Rattle.emp_turns.specs.Choice.{Mark, Aim, Step, IsLevel, Path}
use Rattle.emp_turns.specs.Loop.{after, then_on, Turn, ends, goes, going, by_turn, outcome}
use Rattle.emp_turns.proofs.Laws.{ends_in_time}

-- one more turn, as a loop makes it
pub after_more : {D : Type 0} (next : D → Option D) (m : ℕ) (d e : D) → after next m d ≡ Some e → after next (suc m) d ≡ next e
after_more {D = D} next zero d e h = let q : d ≡ e = cc in ap (then_on (after next zero)) (ap next q) ∙ now (next e)
  where
    now : (o : Option D) → then_on (after next zero) o ≡ o
    now None = refl
    now (Some f) = refl
after_more {D = D} next (suc m) d e h = go (next d) refl h (λ f q. after_more next m f e q)
  where
    go : (o : Option D) → next d ≡ o → then_on (after next m) o ≡ Some e → ((f : D) → after next m f ≡ Some e → after next (suc m) f ≡ next e) → then_on (after next (suc m)) (next d) ≡ next e
    go None q h rest = absurd (cc)
    go (Some f) q h rest = ap (then_on (after next (suc m))) q ∙ rest f h

module _ (D : Type 0) (next : D → Option D) (table : D → Table) (Sound : D → Type 0) (n k : ℕ) (mark : ℕ → Mark) (aim : Aim) (turn : (d e : D) → Sound d → next d ≡ Some e → Sound e × Step n mark aim (table d) (table e)) where
  pub path_of : (m : ℕ) (d e : D) → Sound d → after next m d ≡ Some e → Path n mark aim m (table d)
  path_of zero d e s h = tt
  path_of (suc m) d e s h = go (next d) refl h (λ f r q. path_of m f e r q)
    where
      go : (o : Option D) → next d ≡ o → then_on (after next m) o ≡ Some e → ((f : D) → Sound f → after next m f ≡ Some e → Path n mark aim m (table f)) → Path n mark aim (suc m) (table d)
      go None q h rest = absurd (cc)
      go (Some f) q h rest = let t = turn d f s q in (table f, t.1, rest f t.0 h)

  -- fewer turns than sets of columns
  pub turns_few : (m : ℕ) (d e : D) → Sound d → IsLevel n k mark aim (table d) → after next m d ≡ Some e → m < 2 ^ k
  turns_few m d e s level h = ends_in_time n k m mark aim (table d) level (path_of m d e s h)

  -- so with that many units the loop never asks for one in vain
  pub never_spent : (m : ℕ) (d : D) → Sound d → IsLevel n k mark aim (table d) → 2 ^ k ≤ m → after next m d ≡ None
  never_spent m d s level h = go (after next m d) refl
    where
      go : (o : Option D) → after next m d ≡ o → after next m d ≡ None
      go None q = q
      go (Some e) q = absurd (let l = turns_few m d e s level q in omega arith)

-- where the loop is over within the units and one more look, what `spent` would answer does not matter
pub outcome_same : {D O : Type 0} (look : D → Turn D O) (spent other : D → O) (left : ℕ) (d : D) → after (λ e. going (look e)) (suc left) d ≡ None → outcome look spent left d ≡ outcome look other left d
outcome_same {D = D} {O = O} look spent other zero d h = go (look d) h
  where
    go : (t : Turn D O) → then_on (after (λ e. going (look e)) zero) (going t) ≡ None → by_turn (λ e. spent d) t ≡ by_turn (λ e. other d) t
    go (ends o) h = refl
    go (goes e) h = absurd (cc)
outcome_same {D = D} {O = O} look spent other (suc left) d h = go (look d) h (λ e k. outcome_same look spent other left e k)
  where
    go : (t : Turn D O) → then_on (after (λ e. going (look e)) (suc left)) (going t) ≡ None → ((e : D) → after (λ e. going (look e)) (suc left) e ≡ None → outcome look spent left e ≡ outcome look other left e) → by_turn (outcome look spent left) t ≡ by_turn (outcome look other left) t
    go (ends o) h rest = refl
    go (goes e) h rest = rest e h

-- a loop of chosen exchanges with as many units as there are sets of columns never answers `spent`
pub never_asks : (D O : Type 0) (look : D → Turn D O) (table : D → Table) (Sound : D → Type 0) (n k : ℕ) (mark : ℕ → Mark) (aim : Aim) → ((d e : D) → Sound d → going (look d) ≡ Some e → Sound e × Step n mark aim (table d) (table e)) → (spent other : D → O) (left : ℕ) (d : D) → Sound d → IsLevel n k mark aim (table d) → 2 ^ k ≤ suc left → outcome look spent left d ≡ outcome look other left d
never_asks D O look table Sound n k mark aim turn spent other left d s level h = outcome_same look spent other left d (never_spent D (λ e. going (look e)) table Sound n k mark aim turn (suc left) d s level h)

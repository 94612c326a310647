-- The variables that are left are those that no equation defines.
use Rattle.std.proofs.Common.{◌≡◌, ◌⊎◌, inl, inr, ℕ, zero, suc, ◌+◌, ◌<◌, ◌≤◌, Bool, true, false, cond, List, [], ◌∷◌, length, get_or, arith, refl, sym, ap, ◌∙◌}
use Rattle.std.proofs.lemmas.Bool.{false≢true}
use Rattle.emp_ast.specs.declared.model.Variable.{Variable}
use Rattle.emp_ast.specs.declared.model.Model.{Model}
use Rattle.emp_ast.specs.declared.annot.Annot.{Annot}
use Rattle.emp_ast.specs.Parties.{is_defined}
use Rattle.emp_problem.specs.Left.{left_from, left}

abbrev pub IsLeft : Model → Annot → ℕ → ℕ → Type 0
IsLeft m a n v = (v < n) × (is_defined m a v ≡ false)

from_meets : (m : Model) (a : Annot) (at n : ℕ) (xs : List Variable) (i : ℕ) → at + length xs ≡ n → i < length (left_from m a at xs) → IsLeft m a n (get_or (left_from m a at xs) i 0)
from_meets m a at n [] i e h = absurd (omega arith)
from_meets m a at n (x ∷ xs) i e h = go (λ j l. from_meets m a (at + 1) n xs j (omega (arith, e)) l) (is_defined m a at) refl i h
  where
    go : ((j : ℕ) → j < length (left_from m a (at + 1) xs) → IsLeft m a n (get_or (left_from m a (at + 1) xs) j 0)) → (b : Bool) → is_defined m a at ≡ b → (j : ℕ) → j < length (cond b (left_from m a (at + 1) xs) (at ∷ left_from m a (at + 1) xs)) → IsLeft m a n (get_or (cond b (left_from m a (at + 1) xs) (at ∷ left_from m a (at + 1) xs)) j 0)
    go rest true d j l = rest j l
    go rest false d zero l = (omega (arith, e), d)
    go rest false d (suc j) l = rest j (omega (arith, l))

-- each of them is a variable that no equation defines
pub left_meets : (m : Model) (a : Annot) (i : ℕ) → i < length (left m a) → IsLeft m a (length m.variables) (get_or (left m a) i 0)
left_meets m a i h = from_meets m a 0 (length m.variables) m.variables i (omega arith) h

-- v stands in the list
abbrev pub IsAmong : List ℕ → ℕ → Type 0
IsAmong vs v = (i : ℕ) × (i < length vs) × (get_or vs i 0 ≡ v)

among_later : (u : ℕ) (vs : List ℕ) (v : ℕ) → IsAmong vs v → IsAmong (u ∷ vs) v
among_later u vs v h = (suc h.0, omega (arith, h.1), h.2)

here_or_later : (at v : ℕ) → at ≤ v → (at ≡ v) ⊎ (at + 1 ≤ v)
here_or_later at v h = grind arith

from_finds : (m : Model) (a : Annot) (at : ℕ) (xs : List Variable) (v : ℕ) → at ≤ v → v < at + length xs → is_defined m a v ≡ false → IsAmong (left_from m a at xs) v
from_finds m a at [] v h l d = absurd (omega arith)
from_finds m a at (x ∷ xs) v h l d = go (λ k. from_finds m a (at + 1) xs v k (omega (arith, l)) d) (is_defined m a at) refl (here_or_later at v h)
  where
    go : (at + 1 ≤ v → IsAmong (left_from m a (at + 1) xs) v) → (b : Bool) → is_defined m a at ≡ b → (at ≡ v) ⊎ (at + 1 ≤ v) → IsAmong (cond b (left_from m a (at + 1) xs) (at ∷ left_from m a (at + 1) xs)) v
    go rest true e (inl s) = absurd (false≢true (sym d ∙ (ap (is_defined m a) (sym s) ∙ e)))
    go rest false e (inl s) = (0, omega arith, s)
    go rest true e (inr k) = rest k
    go rest false e (inr k) = among_later at (left_from m a (at + 1) xs) v (rest k)

-- and each such variable is among them
pub left_finds : (m : Model) (a : Annot) (v : ℕ) → v < length m.variables → is_defined m a v ≡ false → IsAmong (left m a) v
left_finds m a v l d = from_finds m a 0 m.variables v (omega arith) (omega (arith, l)) d

-- A game with numbers in the place of one without, as the laws of a rewriting ask it.
use Rattle.std.proofs.Common.{◌≡◌, ℕ, zero, suc, ◌+◌, ℤ, pos, ◌*ℤ◌, List, [], ◌∷◌, take, length, arith, refl, ap, subst, ◌∙◌}
use Rattle.emp_algebra.proofs.Ring.{var, lit, ◌⊗◌, by_ring}
use Rattle.emp_algebra.proofs.Laws.{mul_pos}
use Rattle.emp_algebra.proofs.Vectors.{cell-scale, length-scale}
use Rattle.emp_algebra.specs.Vector.{cell}
use Rattle.emp_num.specs.Point.{Point}
use Rattle.emp_num.specs.SamePoint.{SamePoint}
use Rattle.emp_split.specs.Games.{Game, coordinates, IsGame, IsConvexGame}
use Rattle.emp_split.specs.Numbers.{slots}
use Rattle.emp_split.specs.Meaning.{IsAdmissible, IsSplit}
use Rattle.emp_split.specs.Laws.{Lifted}
use Rattle.emp_split.proofs.Lifting.{split_is_admissible, admissible_lifts}

-- the first n coordinates
abbrev pub front : ℕ → Point → Point
front n p = record { den = p.den; nums = take n p.nums; positive = p.positive }

pub front_length : (n : ℕ) (xs : List ℤ) (m : ℕ) → length xs ≡ n + m → length (take n xs) ≡ n
front_length zero xs m h = refl
front_length (suc n) [] m h = absurd (omega arith)
front_length (suc n) (x ∷ xs) m h = ap suc (front_length n xs m (omega arith))

pub front_fits : (g : Game) (p : Point) → length p.nums ≡ coordinates g + length (slots g) → length (front (coordinates g) p).nums ≡ coordinates g
front_fits g p h = front_length (coordinates g) p.nums (length (slots g)) h

pub front_sound : (g : Game) (p : Point) → IsGame g → IsSplit g p.den p.nums → IsAdmissible g p.den (front (coordinates g) p).nums
front_sound g p kept h = split_is_admissible g p.den p.nums kept p.positive h

-- ---- the same point
pub take_lengths : (n : ℕ) (xs ys : List ℤ) → length xs ≡ length ys → length (take n xs) ≡ length (take n ys)
take_lengths zero xs ys e = refl
take_lengths (suc n) [] [] e = refl
take_lengths (suc n) [] (y ∷ ys) e = absurd (omega arith)
take_lengths (suc n) (x ∷ xs) [] e = absurd (omega arith)
take_lengths (suc n) (x ∷ xs) (y ∷ ys) e = ap suc (take_lengths n xs ys (omega arith))

take_none : (n k : ℕ) → cell (take n []) k ≡ pos 0
take_none zero k = refl
take_none (suc n) k = refl

pub take_cells : (n : ℕ) (xs ys : List ℤ) (d e : ℤ) → ((k : ℕ) → cell xs k *ℤ e ≡ cell ys k *ℤ d) → (k : ℕ) → cell (take n xs) k *ℤ e ≡ cell (take n ys) k *ℤ d
take_cells zero xs ys d e h k = by_ring (d ∷ e ∷ []) (lit (pos 0) ⊗ var 1) (lit (pos 0) ⊗ var 0) refl
take_cells (suc n) [] [] d e h k = h k
take_cells (suc n) (x ∷ xs) [] d e h zero = h 0
take_cells (suc n) [] (y ∷ ys) d e h zero = h 0
take_cells (suc n) (x ∷ xs) (y ∷ ys) d e h zero = h 0
take_cells (suc n) (x ∷ xs) [] d e h (suc k) = subst (λ z. cell (take n xs) k *ℤ e ≡ z *ℤ d) (take_none n k) (take_cells n xs [] d e (λ i. h (suc i)) k)
take_cells (suc n) [] (y ∷ ys) d e h (suc k) = subst (λ z. z *ℤ e ≡ cell (take n ys) k *ℤ d) (take_none n k) (take_cells n [] ys d e (λ i. h (suc i)) k)
take_cells (suc n) (x ∷ xs) (y ∷ ys) d e h (suc k) = take_cells n xs ys d e (λ i. h (suc i)) k

pub front_same : (n : ℕ) (p q : Point) → SamePoint p q → SamePoint (front n p) (front n q)
front_same n p q h = record { count = take_lengths n p.nums q.nums h.count; same = take_cells n p.nums q.nums p.den q.den h.same }

-- ---- lifts
pub front_lifts : (g : Game) (q : Point) → IsGame g → IsConvexGame g → IsAdmissible g q.den q.nums → (p : Point) × IsSplit g p.den p.nums × SamePoint (front (coordinates g) p) q
front_lifts g q kept convex a = go (admissible_lifts g q.den q.nums kept convex q.positive a)
  where
    go : Lifted g q.den q.nums → (p : Point) × IsSplit g p.den p.nums × SamePoint (front (coordinates g) p) q
    go l = (
      record { den = l.times *ℤ q.den; nums = l.nums; positive = mul_pos l.times q.den l.positive q.positive },
      l.split,
      record {
        count = ap length l.front ∙ length-scale l.times q.nums;
        same = λ k. ap (λ (ys : List ℤ). cell ys k *ℤ q.den) l.front ∙ (ap (λ z. z *ℤ q.den) (cell-scale l.times q.nums k) ∙ by_ring (l.times ∷ cell q.nums k ∷ q.den ∷ []) (var 0 ⊗ var 1 ⊗ var 2) (var 1 ⊗ (var 0 ⊗ var 2)) refl);
      },
    )

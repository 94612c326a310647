-- The row system in the place of a game with numbers, as the laws of a rewriting ask it.
use Rattle.std.proofs.Common.{◌≡◌, ◌↔◌, ℕ, zero, suc, ◌+◌, ℤ, pos, ◌*ℤ◌, ◌<ℤ◌, List, [], ◌∷◌, ◌++◌, map, take, length, arith, refl, sym, ap, ap₂, subst, ◌∙◌, length-append}
use Rattle.emp_algebra.specs.Vector.{cell, scale}
use Rattle.emp_algebra.proofs.Ring.{var, ◌⊗◌, by_ring}
use Rattle.emp_algebra.proofs.Vectors.{cell-scale, length-scale}
use Rattle.emp_num.specs.Point.{Point}
use Rattle.emp_num.specs.SamePoint.{SamePoint}
use Rattle.emp_rows.specs.declared.system.RowSystem.{RowSystem}
use Rattle.emp_rows.specs.RowPoints.{Solves}
use Rattle.emp_split.specs.Games.{Game, coordinates, IsGame}
use Rattle.emp_split.specs.Numbers.{Slot, slots}
use Rattle.emp_split.specs.Meaning.{IsSplit, IsBetter}
use Rattle.emp_split.proofs.Reforms.{front_length, take_lengths, take_cells}
use Rattle.emp_conditions.specs.Base.{base_slots, index_base, multiplier, split_of}
use Rattle.emp_conditions.specs.Laws.{IsLeader}
use Rattle.emp_conditions.proofs.Sound.{split_front}
use Rattle.emp_quantities.specs.System.{IsBelowBy}
use Rattle.emp_quantities.specs.Over.{IsSystemOver}
use Rattle.emp_quantities.specs.Laws.{GoalIsShort}
use Rattle.emp_quantities.proofs.Numbering.{over_orders, over_lifts}

-- the coordinates and the multipliers of a row point
abbrev pub split_point : Game → Point → Point
split_point g p = record { den = p.den; nums = split_of g p.nums; positive = p.positive }

abbrev number_of : Game → List ℤ → Slot → ℤ
number_of g nums s = cell nums (coordinates g + index_base (multiplier s.0 s.1) (base_slots g))

map_length : (f : Slot → ℤ) (ss : List Slot) → length (map f ss) ≡ length ss
map_length f [] = refl
map_length f (s ∷ ss) = ap suc (map_length f ss)

pub split_fits : (n : ℤ) (g : Game) (s : RowSystem) (p : Point) → IsSystemOver n g s → length p.nums ≡ s.base → length (split_point g p).nums ≡ coordinates g + length (slots g)
split_fits n g s p m h =
    length-append (take (coordinates g) p.nums) (map (number_of g p.nums) (slots g)) ∙ ap₂ (λ i j. i + j) (front_length (coordinates g) p.nums (length (base_slots g)) (h ∙ m.base)) (map_length (number_of g p.nums) (slots g))

-- ---- the same point
map_cells : (g : Game) (ss : List Slot) (xs ys : List ℤ) (d e : ℤ) → ((k : ℕ) → cell xs k *ℤ e ≡ cell ys k *ℤ d) → (k : ℕ) → cell (map (number_of g xs) ss) k *ℤ e ≡ cell (map (number_of g ys) ss) k *ℤ d
map_cells g [] xs ys d e h k = take_cells 0 xs ys d e h k
map_cells g (s ∷ ss) xs ys d e h zero = h (coordinates g + index_base (multiplier s.0 s.1) (base_slots g))
map_cells g (s ∷ ss) xs ys d e h (suc k) = map_cells g ss xs ys d e h k

append_cells : (us vs ts ws : List ℤ) (d e : ℤ) → length us ≡ length vs → ((k : ℕ) → cell us k *ℤ e ≡ cell vs k *ℤ d) → ((k : ℕ) → cell ts k *ℤ e ≡ cell ws k *ℤ d) → (k : ℕ) → cell (us ++ ts) k *ℤ e ≡ cell (vs ++ ws) k *ℤ d
append_cells [] [] ts ws d e l h i k = i k
append_cells [] (v ∷ vs) ts ws d e l h i k = absurd (omega arith)
append_cells (u ∷ us) [] ts ws d e l h i k = absurd (omega arith)
append_cells (u ∷ us) (v ∷ vs) ts ws d e l h i zero = h 0
append_cells (u ∷ us) (v ∷ vs) ts ws d e l h i (suc k) = append_cells us vs ts ws d e (omega arith) (λ j. h (suc j)) i k

pub split_same : (g : Game) (p q : Point) → SamePoint p q → SamePoint (split_point g p) (split_point g q)
split_same g p q h = record {
  count =
      length-append (take (coordinates g) p.nums) (map (number_of g p.nums) (slots g))
      ∙ (ap₂ (λ i j. i + j) (take_lengths (coordinates g) p.nums q.nums h.count) (map_length (number_of g p.nums) (slots g) ∙ sym (map_length (number_of g q.nums) (slots g))) ∙ sym (length-append (take (coordinates g) q.nums) (map (number_of g q.nums) (slots g))));
  same = append_cells (take (coordinates g) p.nums) (take (coordinates g) q.nums) (map (number_of g p.nums) (slots g)) (map (number_of g q.nums) (slots g)) p.den q.den (take_lengths (coordinates g) p.nums q.nums h.count) (take_cells (coordinates g) p.nums q.nums p.den q.den h.same) (map_cells g (slots g) p.nums q.nums p.den q.den h.same);
}

-- ---- order and lifts
-- of row points that fit, one is better exactly where the coordinates of its split point are
pub split_orders : (n : ℤ) (g : Game) (s : RowSystem) (p q : Point) → GoalIsShort (coordinates g) g.leader → IsSystemOver n g s → length p.nums ≡ s.base → length q.nums ≡ s.base → IsBelowBy s.objective p q ↔ IsBetter g.leader p.den (take (coordinates g) (split_point g p).nums) q.den (take (coordinates g) (split_point g q).nums)
split_orders n g s p q short m h k =
    subst (λ ys. IsBelowBy s.objective p q ↔ IsBetter g.leader p.den ys q.den (take (coordinates g) (split_of g q.nums))) (sym (split_front g p.nums (length (base_slots g)) (h ∙ m.base)))
    (subst (λ ys. IsBelowBy s.objective p q ↔ IsBetter g.leader p.den (take (coordinates g) p.nums) q.den ys) (sym (split_front g q.nums (length (base_slots g)) (k ∙ m.base))) (over_orders n g s p q short m h k))

pub split_lifts : (n : ℤ) (g : Game) (s : RowSystem) (q : Point) → pos 0 <ℤ n → IsGame g → IsLeader (coordinates g) g.leader → IsSystemOver n g s → IsSplit g q.den q.nums → (p : Point) × Solves s p × SamePoint (split_point g p) q
split_lifts n g s q above kept lead m h = go (over_lifts n g s q above kept lead m h)
  where
    go : (p : Point) × Solves s p × (p.den ≡ n *ℤ q.den) × (split_of g p.nums ≡ scale n q.nums) → (p : Point) × Solves s p × SamePoint (split_point g p) q
    go t = (
      t.0,
      t.1,
      record {
        count = ap length t.3 ∙ length-scale n q.nums;
        same = λ k. ap (λ z. z *ℤ q.den) (ap (λ (ys : List ℤ). cell ys k) t.3 ∙ cell-scale n q.nums k) ∙ (by_ring (n ∷ cell q.nums k ∷ q.den ∷ []) (var 0 ⊗ var 1 ⊗ var 2) (var 1 ⊗ (var 0 ⊗ var 2)) refl ∙ ap (λ z. cell q.nums k *ℤ z) (sym t.2));
      },
    )

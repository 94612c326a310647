-- The row points of a game and the points of its file that have their coordinates.
use Rattle.std.proofs.Common.{◌≡◌, ℕ, suc, ◌<◌, ◌≤◌, ℤ, pos, ◌*ℤ◌, List, [], ◌∷◌, take, length, get_or, arith, refl, sym, ap, ap₂, subst, subst₂, ◌∙◌}
use Rattle.std.proofs.lemmas.List.{get_or-take, get_or-map, length-map}
use lib.IntN.{*ℤ_comm}
use Rattle.emp_algebra.specs.Vector.{cell, scale}
use Rattle.emp_algebra.proofs.Vectors.{cell-scale}
use Rattle.emp_num.specs.Ratio.{SameRatio}
use Rattle.emp_num.specs.Point.{Point, coordinate}
use Rattle.emp_num.specs.SamePoint.{SamePoint}
use Rattle.emp_num.proofs.SamePoints.{same_on}
use Rattle.emp_ast.specs.declared.model.Model.{Model}
use Rattle.emp_ast.specs.declared.annot.Annot.{Annot}
use Rattle.emp_rows.specs.declared.system.RowSystem.{RowSystem}
use Rattle.emp_rows.specs.RowPoints.{Solves}
use Rattle.emp_left.specs.Left.{selected}
use Rattle.emp_split.specs.Games.{Game, coordinates, IsConvexGame}
use Rattle.emp_split.specs.Meaning.{IsAdmissible, IsSplit}
use Rattle.emp_split.proofs.Reforms.{front, front_sound, front_same, front_lifts}
use Rattle.emp_conditions.specs.Base.{base_slots}
use Rattle.emp_conditions.proofs.Sound.{split_front}
use Rattle.emp_quantities.specs.Over.{IsSystemOver}
use Rattle.emp_quantities.proofs.Reforms.{split_point, split_lifts}
use Rattle.emp_quantities.proofs.Numbering.{over_is_sound}
use Rattle.emp_problem.specs.Left.{left}
use Rattle.emp_problem.specs.GameOf.{IsGameOf}
use Rattle.emp_meaning.specs.Laws.{left_nums, IsWellMade}
use Rattle.emp_verdict.specs.Laws.{HasCoordinates}
use Rattle.emp_verdict.proofs.Scaled.{over}

-- ---- coordinates
pub count_is : (n : ℤ) (m : Model) (a : Annot) (g : Game) → IsGameOf n m a g → coordinates g ≡ length (left m a)
count_is n m a g h = ap length h.ranges ∙ length-map (left m a) _

-- over the product of both dens the two lists are one
matched_lists : (vs : List ℕ) (xs ys : List ℤ) (d e : ℤ) → ((i : ℕ) → i < length vs → cell xs (get_or vs i 0) *ℤ e ≡ cell ys i *ℤ d) → length vs ≤ length ys → selected vs (scale e xs) ≡ take (length vs) (scale d ys)
matched_lists [] xs ys d e h l = refl
matched_lists (v ∷ vs) xs [] d e h l = absurd (omega arith)
matched_lists (v ∷ vs) xs (y ∷ ys) d e h l =
    ap₂ (λ (z : ℤ) (zs : List ℤ). z ∷ zs) (cell-scale e xs v ∙ (*ℤ_comm e (cell xs v) ∙ (h 0 (omega arith) ∙ *ℤ_comm y d))) (matched_lists vs xs ys d e (λ i k. h (suc i) (omega (arith, k))) (omega (arith, l)))

-- a row point's coordinates are those of the file's point
pub matched : (n : ℤ) (m : Model) (a : Annot) (g : Game) (s : RowSystem) (p q : Point) → IsGameOf n m a g → IsSystemOver n g s → length q.nums ≡ s.base → HasCoordinates m a p q → left_nums m a (over q p) ≡ take (coordinates g) (over p q).nums
matched n m a g s p q is system fits h =
    let count = count_is n m a g is in
    matched_lists (left m a) p.nums q.nums p.den q.den h (omega (arith, count, fits, system.base)) ∙ ap (λ k. take k (scale p.den q.nums)) (sym count)

-- ---- row points solve the game
pub rows_admissible : (n : ℤ) (g : Game) (s : RowSystem) (q : Point) → IsWellMade g → IsConvexGame g → IsSystemOver n g s → Solves s q → IsAdmissible g q.den (take (coordinates g) q.nums)
rows_admissible n g s q made convex system h =
    subst (λ (ys : List ℤ). IsAdmissible g q.den ys) (split_front g q.nums (length (base_slots g)) (h.count ∙ system.base))
    (front_sound g (split_point g q) made.game (over_is_sound n g s q made.game convex made.rules made.leader system h))

-- ---- what solves the game is that of a row point
pub record RowOf (m : Model) (a : Annot) (s : RowSystem) (p : Point) : Type 0 where
  pub row : Point
  pub solves : Solves s row
  pub same : HasCoordinates m a p row

abbrev left_point : Model → Annot → Point → Point
left_point m a p = record { den = p.den; nums = left_nums m a p; positive = p.positive }

pub rows_lift : (n : ℤ) (m : Model) (a : Annot) (g : Game) (s : RowSystem) (p : Point) → IsGameOf n m a g → IsWellMade g → IsConvexGame g → IsSystemOver n g s → IsAdmissible g p.den (left_nums m a p) → RowOf m a s p
rows_lift n m a g s p is made convex system h = split (front_lifts g (left_point m a p) made.game convex h)
  where
    same_cell : (t : Point) → Solves s t → SamePoint (front (coordinates g) (split_point g t)) (left_point m a p) → (i : ℕ) → i < length (left m a) → SameRatio (coordinate p (get_or (left m a) i 0)) (coordinate t i)
    same_cell t solves same i l =
        let count = count_is n m a g is in
        let here : cell (take (coordinates g) (split_point g t).nums) i ≡ cell t.nums i = ap (λ (ys : List ℤ). cell ys i) (split_front g t.nums (length (base_slots g)) (solves.count ∙ system.base)) ∙ get_or-take (coordinates g) t.nums i (pos 0) (omega (arith, l, count)) in
        let there : cell (left_nums m a p) i ≡ cell p.nums (get_or (left m a) i 0) = get_or-map (λ v. cell p.nums v) (left m a) i 0 (pos 0) l in
        sym (subst₂ (λ (x y : ℤ). x *ℤ p.den ≡ y *ℤ t.den) here there (same.same i))

    rows : (r : Point) → SamePoint (front (coordinates g) r) (left_point m a p) → (t : Point) × Solves s t × SamePoint (split_point g t) r → RowOf m a s p
    rows r h t = record { row = t.0; solves = t.1; same = same_cell t.0 t.1 (same_on (front (coordinates g) (split_point g t.0)) (front (coordinates g) r) (left_point m a p) (front_same (coordinates g) (split_point g t.0) r t.2) h) }

    split : (r : Point) × IsSplit g r.den r.nums × SamePoint (front (coordinates g) r) (left_point m a p) → RowOf m a s p
    split r = rows r.0 r.2 (split_lifts n g s r.0 is.positive made.game made.leader system r.1)

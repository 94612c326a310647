-- Row rays as rays of the file. The laws of a file and its game are premises.
use Rattle.std.proofs.Common.{◌≡◌, ℕ, ◌+◌, ℤ, pos, ◌+ℤ◌, ◌*ℤ◌, ◌<ℤ◌, Bool, true, false, List, [], ◌∷◌, get_or, Option, Some, None, arith, refl, sym, ap, ap₂, subst, ◌∙◌}
use Rattle.std.proofs.lemmas.List.{get_or-map, length-map}
use Rattle.std.proofs.lemmas.Int.{ints}
use Rattle.std.proofs.lemmas.Bool.{false≢true}
use Rattle.emp_algebra.specs.Vector.{cell, scale}
use Rattle.emp_algebra.proofs.Laws.{mul_pos}
use Rattle.emp_algebra.proofs.Ring.{var, lit, ◌⊕◌, ◌⊗◌, by_ring}
use Rattle.emp_algebra.proofs.Vectors.{cell-scale}
use Rattle.emp_num.specs.Ratio.{ratio, plus, times, SameRatio}
use Rattle.emp_num.specs.Point.{Point, coordinate}
use Rattle.emp_num.proofs.SamePoints.{cross_on}
use Rattle.emp_systems.proofs.Eliminate.{cell-add_rows}
use Rattle.emp_ast.specs.declared.model.Model.{Model}
use Rattle.emp_ast.specs.declared.annot.Annot.{Annot}
use Rattle.emp_ast.specs.Bilevel.{IsBetterForLeader, IsAfterSteps}
use Rattle.emp_rows.specs.declared.affine.Affine.{Affine}
use Rattle.emp_rows.specs.declared.system.RowSystem.{RowSystem}
use Rattle.emp_cert.specs.Verdicts.{IsRowRay}
use Rattle.emp_cert.specs.Laws.{along, IsAlong}
use Rattle.emp_cert.proofs.Rays.{some_along, ray_solves, ray_falls}
use Rattle.emp_left.specs.Left.{selected}
use Rattle.emp_split.specs.Games.{Leader, Game}
use Rattle.emp_quantities.specs.System.{IsBelowBy}
use Rattle.emp_quantities.specs.Over.{IsObjectiveOver}
use Rattle.emp_problem.specs.Left.{left}
use Rattle.emp_problem.specs.GameOf.{LeadsAs}
use Rattle.emp_meaning.specs.Laws.{Filled}
use Rattle.emp_verdict.specs.Laws.{HasRows, HasCoordinates, IsFileOf, RaysAreRays}
use Rattle.emp_verdict.proofs.Places.{left_meets, IsAmong, left_finds}
use Rattle.emp_verdict.proofs.Verdicts.{FileIsGame, points_admissible, orders_agree}

-- ---- coordinates after steps
along_cell : (p v : Point) (t i : ℕ) → cell (along p v t) i ≡ v.den *ℤ cell p.nums i +ℤ pos t *ℤ p.den *ℤ cell v.nums i
along_cell p v t i = cell-add_rows (scale v.den p.nums) (scale (pos t *ℤ p.den) v.nums) i ∙ ap₂ (λ x y. x +ℤ y) (cell-scale v.den p.nums i) (cell-scale (pos t *ℤ p.den) v.nums i)

-- what has those of p plus t times v has those of q plus t times d, where p has those of q and v those of d
same_along : (p v r q d w : Point) (t x i : ℕ) → IsAlong q d t w → SameRatio (coordinate p x) (coordinate q i) → SameRatio (coordinate v x) (coordinate d i)
    → SameRatio (coordinate r x) (plus (coordinate p x) (times (ratio (pos t) (pos 1)) (coordinate v x))) → SameRatio (coordinate r x) (coordinate w i)
same_along p v r q d w t x i is here step moved =
    let a = cell p.nums x in
    let b = cell v.nums x in
    let c = cell q.nums i in
    let e = cell d.nums i in
    let bottom : pos 0 <ℤ (p.den *ℤ (pos 1 *ℤ v.den)) = mul_pos p.den (pos 1 *ℤ v.den) p.positive (mul_pos (pos 1) v.den (omega (arith, ints)) v.positive) in
    let goes : (a *ℤ (pos 1 *ℤ v.den) +ℤ pos t *ℤ b *ℤ p.den) *ℤ (d.den *ℤ q.den) ≡ (d.den *ℤ c +ℤ pos t *ℤ q.den *ℤ e) *ℤ (p.den *ℤ (pos 1 *ℤ v.den)) =
    by_ring (a ∷ v.den ∷ pos t ∷ b ∷ p.den ∷ d.den ∷ q.den ∷ []) ((var 0 ⊗ (lit (pos 1) ⊗ var 1) ⊕ var 2 ⊗ var 3 ⊗ var 4) ⊗ (var 5 ⊗ var 6)) (var 0 ⊗ var 6 ⊗ (var 1 ⊗ var 5) ⊕ var 3 ⊗ var 5 ⊗ (var 2 ⊗ var 4 ⊗ var 6)) refl
    ∙ (ap₂ (λ y z. y *ℤ (v.den *ℤ d.den) +ℤ z *ℤ (pos t *ℤ p.den *ℤ q.den)) here step
    ∙ by_ring (c ∷ p.den ∷ v.den ∷ d.den ∷ e ∷ pos t ∷ q.den ∷ []) (var 0 ⊗ var 1 ⊗ (var 2 ⊗ var 3) ⊕ var 4 ⊗ var 2 ⊗ (var 5 ⊗ var 1 ⊗ var 6)) ((var 3 ⊗ var 0 ⊕ var 5 ⊗ var 6 ⊗ var 4) ⊗ (var 1 ⊗ (lit (pos 1) ⊗ var 2))) refl) in
    let there : (a *ℤ (pos 1 *ℤ v.den) +ℤ pos t *ℤ b *ℤ p.den) *ℤ w.den ≡ cell w.nums i *ℤ (p.den *ℤ (pos 1 *ℤ v.den)) =
    ap (λ z. (a *ℤ (pos 1 *ℤ v.den) +ℤ pos t *ℤ b *ℤ p.den) *ℤ z) is.den ∙ (goes ∙ ap (λ z. z *ℤ (p.den *ℤ (pos 1 *ℤ v.den))) (sym (ap (λ (ys : List ℤ). cell ys i) is.nums ∙ along_cell q d t i))) in
    cross_on (cell r.nums x) r.den (a *ℤ (pos 1 *ℤ v.den) +ℤ pos t *ℤ b *ℤ p.den) (p.den *ℤ (pos 1 *ℤ v.den)) (cell w.nums i) w.den bottom moved there

-- ---- the point after t steps
-- it is that of the row point after t steps
pub after_file : (m : Model) (a : Annot) (p v q d r w : Point) (t : ℕ) → HasCoordinates m a p q → HasCoordinates m a v d → IsAfterSteps m a p v t r → IsAlong q d t w → IsFileOf m a w r
after_file m a p v q d r w t here step after is = record {
  fits = after.fits;
  definitions = after.definitions;
  same = λ i l. let x = left_meets m a i l in same_along p v r q d w t (get_or (left m a) i 0) i is (here i l) (step i l) (after.moved (get_or (left m a) i 0) x.0 x.1);
}

-- the numbers of the variables that are left, after t steps
abbrev pub left_along : Model → Annot → Point → Point → ℕ → List ℤ
left_along m a p v t = selected (left m a) (along p v t)

pub moved_to : (m : Model) (a : Annot) (p v : Point) (t : ℕ) (f : Filled m a (v.den *ℤ p.den) (left_along m a p v t)) (x : ℕ) → IsAmong (left m a) x → SameRatio (coordinate f.point x) (plus (coordinate p x) (times (ratio (pos t) (pos 1)) (coordinate v x)))
moved_to m a p v t f x among =
    let i = among.0 in
    let place : get_or (left m a) i 0 ≡ x = among.2 in
    let top : cell f.point.nums x ≡ f.times *ℤ (v.den *ℤ cell p.nums x +ℤ pos t *ℤ p.den *ℤ cell v.nums x) =
    sym (get_or-map (λ u. cell f.point.nums u) (left m a) i 0 (pos 0) among.1 ∙ ap (cell f.point.nums) place)
    ∙ (ap (λ (ys : List ℤ). cell ys i) f.nums ∙ (cell-scale f.times (left_along m a p v t) i ∙ ap (λ z. f.times *ℤ z) (get_or-map (λ u. cell (along p v t) u) (left m a) i 0 (pos 0) among.1 ∙ (ap (cell (along p v t)) place ∙ along_cell p v t x)))) in
    ap (λ z. z *ℤ (p.den *ℤ (pos 1 *ℤ v.den))) top
    ∙ (by_ring (f.times ∷ v.den ∷ cell p.nums x ∷ pos t ∷ p.den ∷ cell v.nums x ∷ [])
    (var 0 ⊗ (var 1 ⊗ var 2 ⊕ var 3 ⊗ var 4 ⊗ var 5) ⊗ (var 4 ⊗ (lit (pos 1) ⊗ var 1)))
    ((var 2 ⊗ (lit (pos 1) ⊗ var 1) ⊕ var 3 ⊗ var 5 ⊗ var 4) ⊗ (var 0 ⊗ (var 1 ⊗ var 4)))
    refl
    ∙ ap (λ z. (cell p.nums x *ℤ (pos 1 *ℤ v.den) +ℤ pos t *ℤ cell v.nums x *ℤ p.den) *ℤ z) (sym f.den))

some_after : FileIsGame → (m : Model) (a : Annot) (s : RowSystem) (p v : Point) (t : ℕ) → HasRows m a s → (r : Point) × IsAfterSteps m a p v t r
some_after laws m a s p v t rows =
    let f = laws.fills m a (v.den *ℤ p.den) (left_along m a p v t) rows.class (mul_pos v.den p.den v.positive p.positive) (length-map (left m a) _) in (
      f.point,
      record {
        fits = f.fits;
        moved = λ x l d. moved_to m a p v t f x (left_finds m a x l d);
        definitions = f.definitions;
      },
    )

-- ---- the objective falls
-- a bilevel file's system has an objective
has_objective : (n : ℤ) (m : Model) (a : Annot) (g : Game) (b : Bool) (l : Option Leader) (o : Option Affine) → b ≡ true → LeadsAs n m a b l → IsObjectiveOver n g o l → (r : Affine) × (o ≡ Some r)
has_objective n m a g true (Some l) (Some r) e h k = (r, refl)
has_objective n m a g true (Some l) None e h k = absurd k
has_objective n m a g true None o e h k = absurd h
has_objective n m a g false l o e h k = absurd (false≢true e)

ray_below : (s : RowSystem) (q d : Point) → IsRowRay s q d → (r : Affine) → s.objective ≡ Some r → (t : ℕ) (w u : Point) → IsAlong q d t w → IsAlong q d (t + 1) u → IsBelowBy s.objective u w
ray_below s q d ray r o t w u h k = subst (λ (x : Option Affine). IsBelowBy x u w) (sym o) (ray_falls s r q d ray o t (t + 1) w u (omega arith) h k)

pub rays_are_rays : FileIsGame → RaysAreRays
rays_are_rays laws m a s p v q d rows bilevel ray file fits step = record {
  start = points_admissible laws m a s p q rows bilevel ray.point file;
  after = λ t. some_after laws m a s p v t rows;
  admissible = λ t r after. let w = some_along q d t in points_admissible laws m a s r w.0 rows bilevel (ray_solves s q d ray t w.0 w.1) (after_file m a p v q d r w.0 t file.same step after w.1);
  improves = better;
}
  where
    better : (t : ℕ) (r u : Point) → IsAfterSteps m a p v t r → IsAfterSteps m a p v (t + 1) u → IsBetterForLeader m a u r
    better t r u here later =
        let w = some_along q d t in
        let x = some_along q d (t + 1) in
        let o = has_objective rows.times m a rows.game a.bilevel rows.game.leader s.objective bilevel rows.is.leads rows.system.objective in
        (orders_agree laws m a s x.0 w.0 u r rows bilevel (ray_solves s q d ray (t + 1) x.0 x.1) (ray_solves s q d ray t w.0 w.1) (after_file m a p v q d u x.0 (t + 1) file.same step later x.1) (after_file m a p v q d r w.0 t file.same step here w.1)).0
        (ray_below s q d ray o.0 o.1 t w.0 x.0 w.1 x.1)

-- Verdicts on the rows of a model's disjunctions.
use Rattle.std.proofs.Common.{◌≡◌, ◌↔◌, ℕ, ◌+◌, ℤ, pos, ◌*ℤ◌, ◌≤ℤ◌, List, [], ◌∷◌, inl, inr, length, Option, Some, None, arith, refl, sym, ap, subst, ◌∙◌}
use Rattle.std.proofs.lemmas.List.{get_or-take, length-map}
use Rattle.std.proofs.lemmas.List.Elements.{All-weaker}
use Rattle.emp_algebra.proofs.Laws.{mul_pos}
use Rattle.emp_algebra.proofs.Order.{linear}
use Rattle.emp_num.specs.Point.{Point}
use Rattle.emp_num.specs.SamePoint.{SamePoint}
use Rattle.emp_num.proofs.SamePoints.{same_back}
use Rattle.emp_ast.specs.declared.tree.EquId.{EquId}
use Rattle.emp_ast.specs.declared.model.Model.{Model}
use Rattle.emp_ast.specs.Bilevel.{IsAfterSteps}
use Rattle.emp_ast.specs.Rivals.{Fits}
use Rattle.emp_ast.proofs.SameWords.{same_points_are_one}
use Rattle.emp_rows.specs.declared.affine.Affine.{Affine}
use Rattle.emp_rows.specs.declared.system.RowSystem.{RowSystem}
use Rattle.emp_rows.specs.RowPoints.{Solves, value_at}
use Rattle.emp_cert.specs.Verdicts.{NoneBetter, IsRowRay}
use Rattle.emp_cert.proofs.Rays.{some_along, ray_solves, ray_falls}
use Rattle.emp_split.specs.Games.{Leader, Game}
use Rattle.emp_split.proofs.Reforms.{front}
use Rattle.emp_quantities.specs.System.{IsBelowBy}
use Rattle.emp_quantities.specs.Over.{IsObjectiveOver}
use Rattle.emp_problem.specs.declared.problem.AgentProblem.{AgentProblem}
use Rattle.emp_problem.specs.Left.{left}
use Rattle.emp_problem.specs.Problem.{game}
use Rattle.emp_meaning.proofs.Assembly.{coordinates_fill}
use Rattle.emp_verdict.specs.Laws.{HasCoordinates, IsFileOf}
use Rattle.emp_verdict.proofs.Rays.{after_file, left_along, moved_to}
use Rattle.emp_verdict.proofs.Places.{left_finds}
use Rattle.emp_layers.proofs.Files.{image_is_one}
use Rattle.emp_disj.specs.Choice.{apart, MeetsNumber, MeetsOne, IsChoice, IsBetterChoice, IsBestChoice, IsChoiceRay}
use Rattle.emp_disj.specs.Extended.{PartRules}
use Rattle.emp_disj.specs.Laws.{IsDisj, disj_image}
use Rattle.emp_disj.specs.Verdicts.{ChoicePointsSolve, MissingHaveNoChoice, BestAreBestChoices, RaysAreChoiceRays}
use Rattle.emp_disj.proofs.Reforms.{k, system, wide_leader, size_is, fits_front, sound, order, lifts}

-- ---- the same point
same_number : (m : Model) (p q : Point) (e : ℕ) → SamePoint p q → MeetsNumber m p e → MeetsNumber m q e
same_number m p q e same h = (h.0, h.1, same_points_are_one.equation h.0 p q same h.2)

same_one : (m : Model) (p q : Point) → SamePoint p q → (es : List EquId) → MeetsOne m p es → MeetsOne m q es
same_one m p q same [] h = h
same_one m p q same (e ∷ es) (inl h) = inl (same_number m p q e.at same h)
same_one m p q same (e ∷ es) (inr h) = inr (same_one m p q same es h)

pub same_choice : (m : Model) (ds : List (List EquId)) (p q : Point) → SamePoint p q → IsChoice m ds p → IsChoice m ds q
same_choice m ds p q same h = record {
  fits = sym same.count ∙ h.fits;
  bounds = λ v x at. same_points_are_one.bounds v x p q same (h.bounds v x at);
  others = λ e c at n. same_points_are_one.equation c p q same (h.others e c at n);
  chosen = All-weaker (MeetsOne m p) (MeetsOne m q) (same_one m p q same) ds h.chosen;
}

same_better : (m : Model) (ds : List (List EquId)) (p q r t : Point) → SamePoint p q → SamePoint r t → IsBetterChoice m p r → IsBetterChoice m q t
same_better m ds p q r t one two h = same_points_are_one.better_for_leader m (apart ds) p q r t one two h

none_below : (o : Option Affine) (q t : Point) → ((r : Affine) → o ≡ Some r → (value_at r q *ℤ t.den) ≤ℤ (value_at r t *ℤ q.den)) → IsBelowBy o t q → ⊥
none_below None q t h b = b
none_below (Some r) q t h b = let l = h r refl in omega (arith, linear, l, b)

module _ (m : Model) (ds : List (List EquId)) (pr wide : AgentProblem) (parts : List PartRules) (s : RowSystem) (h : IsDisj m ds pr wide parts s) where
  -- ---- the model's point of a row point is its image
  image_same : (p q : Point) → Solves s q → IsFileOf m (apart ds) q p → SamePoint (disj_image m ds pr q) p
  image_same p q solves file =
      image_is_one m (apart ds) pr (front (length pr.variables) q) p h.files (fits_front m ds pr wide parts s h q solves) (record {
        fits = file.fits;
        definitions = file.definitions;
        same = λ i l. file.same i l ∙ ap (λ z. z *ℤ p.den) (sym (get_or-take (length pr.variables) q.nums i (pos 0) (let e = size_is m ds pr wide parts s h in omega (arith, l, e))));
      })

  point_solves : (p q : Point) → Solves s q → IsFileOf m (apart ds) q p → IsChoice m ds p
  point_solves p q solves file = same_choice m ds (disj_image m ds pr q) p (image_same p q solves file) (sound m ds pr wide parts s h q solves)

  -- a row point is below another one where the points of the model are so ordered
  better_below : (p q r t : Point) → Solves s q → Solves s t → SamePoint (disj_image m ds pr q) p → SamePoint (disj_image m ds pr t) r → IsBetterChoice m p r ↔ IsBelowBy s.objective q t
  better_below p q r t sq st one two =
      let o = order m ds pr wide parts s h q t sq st in (
        λ b. o.1 (same_better m ds p (disj_image m ds pr q) r (disj_image m ds pr t) (same_back (disj_image m ds pr q) p one) (same_back (disj_image m ds pr t) r two) b),
        λ b. same_better m ds (disj_image m ds pr q) p (disj_image m ds pr t) r one two (o.0 b),
      )

  missing : (p : Point) → ((q : Point) → Solves s q → ⊥) → IsChoice m ds p → ⊥
  missing p none choice = let t = lifts m ds pr wide parts s h p choice in none t.0 t.1

  best : (p q : Point) → Solves s q → NoneBetter s q → IsFileOf m (apart ds) q p → IsBestChoice m ds p
  best p q solves none file = record { admissible = point_solves p q solves file; best = beaten }
    where
      beaten : (r : Point) → IsChoice m ds r → IsBetterChoice m r p → ⊥
      beaten r choice better =
          let t = lifts m ds pr wide parts s h r choice in
          none_below s.objective q t.0 (λ o e. none o e t.0 t.1) ((better_below r t.0 p q t.1 solves t.2 (image_same p q solves file)).0 better)

  -- ---- rays
  some_after : (p v : Point) (t : ℕ) → (r : Point) × IsAfterSteps m (apart ds) p v t r
  some_after p v t =
      let f = coordinates_fill m (apart ds) (v.den *ℤ p.den) (left_along m (apart ds) p v t) h.files.class (mul_pos v.den p.den v.positive p.positive) (length-map (left m (apart ds)) _) in
      (f.point, record { fits = f.fits; moved = λ x l d. moved_to m (apart ds) p v t f x (left_finds m (apart ds) x l d); definitions = f.definitions })

  has_objective : (r : Affine) × (s.objective ≡ Some r)
  has_objective =
      let o = go (k m ds pr wide parts s h) (game (k m ds pr wide parts s h) wide) h.rows.plain.objective (game (k m ds pr wide parts s h) wide).leader (system m ds pr wide parts s h).objective (wide_leader m ds pr wide parts s h) in
      (o.0, h.rows.objective ∙ o.1)
    where
      go : (n : ℤ) (g : Game) {x : Leader} (o : Option Affine) (l : Option Leader) → IsObjectiveOver n g o l → l ≡ Some x → (r : Affine) × (o ≡ Some r)
      go n g (Some r) l i e = (r, refl)
      go n g None None i e = cc
      go n g None (Some l) i e = absurd i

  ray : (p v q d : Point) → IsRowRay s q d → IsFileOf m (apart ds) q p → Fits m v → HasCoordinates m (apart ds) v d → IsChoiceRay m ds p v
  ray p v q d is file fits step = record {
    start = point_solves p q is.point file;
    after = λ t. some_after p v t;
    admissible = λ t r after. let w = some_along q d t in point_solves r w.0 (ray_solves s q d is t w.0 w.1) (after_file m (apart ds) p v q d r w.0 t file.same step after w.1);
    improves = improved;
  }
    where
      improved : (t : ℕ) (r u : Point) → IsAfterSteps m (apart ds) p v t r → IsAfterSteps m (apart ds) p v (t + 1) u → IsBetterChoice m u r
      improved t r u here later =
          let w = some_along q d t in
          let x = some_along q d (t + 1) in
          let sw = ray_solves s q d is t w.0 w.1 in
          let sx = ray_solves s q d is (t + 1) x.0 x.1 in
          let o = has_objective in
          (better_below u x.0 r w.0 sx sw (image_same u x.0 sx (after_file m (apart ds) p v q d u x.0 (t + 1) file.same step later x.1)) (image_same r w.0 sw (after_file m (apart ds) p v q d r w.0 t file.same step here w.1))).1
          (subst (λ (y : Option Affine). IsBelowBy y x.0 w.0) (sym o.1) (ray_falls s o.0 q d is o.1 t (t + 1) w.0 x.0 (omega arith) w.1 x.1))

-- ---- the laws
pub choice_points_solve : ChoicePointsSolve
choice_points_solve m ds pr wide parts s p q h solves file = point_solves m ds pr wide parts s h p q solves file

pub missing_have_no_choice : MissingHaveNoChoice
missing_have_no_choice m ds pr wide parts s p h none choice = missing m ds pr wide parts s h p none choice

pub best_are_best_choices : BestAreBestChoices
best_are_best_choices m ds pr wide parts s p q h solves none file = best m ds pr wide parts s h p q solves none file

pub rays_are_choice_rays : RaysAreChoiceRays
rays_are_choice_rays m ds pr wide parts s p v q d h is file fits step = ray m ds pr wide parts s h p v q d is file fits step

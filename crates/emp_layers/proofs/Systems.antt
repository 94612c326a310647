-- From the rows of a problem to the problem, as a rewriting asks it.
use Rattle.std.proofs.Common.{◌≡◌, ◌↔◌, ℕ, ◌<◌, ◌≤◌, ℤ, pos, ◌*ℤ◌, List, take, length, get_or, arith, sym, subst, subst₂, ◌∙◌}
use Rattle.std.proofs.lemmas.List.{length-map, length-take-le, get_or-take}
use Rattle.emp_algebra.specs.Vector.{cell}
use Rattle.emp_num.specs.declared.frac.Frac.{Frac}
use Rattle.emp_num.specs.Point.{Point, StandsFor}
use Rattle.emp_num.specs.SamePoint.{SamePoint}
use Rattle.emp_num.proofs.SamePoints.{same_on}
use Rattle.emp_num.proofs.Standing.{stands_at, stands_from}
use Rattle.emp_rows.specs.declared.system.RowSystem.{RowSystem}
use Rattle.emp_rows.specs.RowPoints.{Solves}
use Rattle.emp_split.specs.Games.{Game, coordinates, IsConvexGame}
use Rattle.emp_split.specs.Meaning.{IsAdmissible, IsSplit, IsBetter}
use Rattle.emp_split.proofs.Reforms.{front, front_same, front_lifts}
use Rattle.emp_conditions.specs.Base.{base_slots}
use Rattle.emp_conditions.proofs.Sound.{split_front}
use Rattle.emp_quantities.specs.System.{IsBelowBy}
use Rattle.emp_quantities.specs.Over.{IsSystemOver}
use Rattle.emp_quantities.proofs.Reforms.{split_point, split_lifts}
use Rattle.emp_quantities.proofs.Numbering.{over_orders}
use Rattle.emp_problem.specs.declared.problem.AgentProblem.{AgentProblem}
use Rattle.emp_problem.specs.Problem.{game, IsOver}
use Rattle.emp_whole.proofs.Multiples.{each_problem_is_whole}
use Rattle.emp_share.proofs.Passing.{passing_is_convex}
use Rattle.emp_verdict.proofs.Rows.{rows_admissible}
use Rattle.emp_solution.proofs.Fit.{base_reaches}
use Rattle.emp_layers.specs.Layers.{SolvesProblem, IsBetterOfProblem, IsProblemsSystem}
use Rattle.emp_layers.specs.Laws.{RowsFit, RowsAreSound, RowsKeepOrder, RowsLift}

pub rows_fit : RowsFit
rows_fit pr s p h count = length-take-le (length pr.variables) p.nums (let reach = base_reaches pr s h.rows in omega (arith, reach, count))

module _ (pr : AgentProblem) (s : RowSystem) (h : IsProblemsSystem pr s) where
  abbrev size : ℕ
  size = length pr.variables

  count_is : (n : ℤ) → coordinates (game n pr) ≡ size
  count_is n = length-map pr.variables _

  system : (n : ℤ) → IsOver n pr → IsSystemOver n (game n pr) s
  system n over = h.rows.over n over

  convex : (n : ℤ) → IsOver n pr → IsConvexGame (game n pr)
  convex n over = passing_is_convex n pr over (h.made n over).game h.convex

  -- ---- sound
  sound : (p : Point) → Solves s p → SolvesProblem pr (front size p)
  sound p solves = record {
    fits = rows_fit pr s p h solves.count;
    over = λ n over. subst (λ k. IsAdmissible (game n pr) p.den (take k p.nums)) (count_is n) (rows_admissible n (game n pr) s p (h.made n over) (convex n over) (system n over) solves);
  }

  -- ---- order
  orders : (n : ℤ) → IsOver n pr → (p q : Point) → Solves s p → Solves s q → IsBelowBy s.objective p q ↔ IsBetter (game n pr).leader p.den (take size p.nums) q.den (take size q.nums)
  orders n over p q sp sq =
      subst (λ k. IsBelowBy s.objective p q ↔ IsBetter (game n pr).leader p.den (take k p.nums) q.den (take k q.nums)) (count_is n) (over_orders n (game n pr) s p q (h.made n over).goal (system n over) sp.count sq.count)

  keeps_order : (p q : Point) → Solves s p → Solves s q → IsBelowBy s.objective p q ↔ IsBetterOfProblem pr (front size p) (front size q)
  keeps_order p q sp sq = let one = each_problem_is_whole pr in (λ b n over. (orders n over p q sp sq).0 b, λ f. (orders one.0 one.1 p q sp sq).1 (f one.0 one.1))

  -- ---- lifts
  lifts : (q : Point) → SolvesProblem pr q → (p : Point) × Solves s p × SamePoint (front size p) q
  lifts q solves = split (front_lifts g q (h.made n over).game (convex n over) (solves.over n over))
    where
      n : ℤ
      n = (each_problem_is_whole pr).0

      over : IsOver (each_problem_is_whole pr).0 pr
      over = (each_problem_is_whole pr).1

      g : Game
      g = game (each_problem_is_whole pr).0 pr

      rows : (r : Point) → SamePoint (front (coordinates (game (each_problem_is_whole pr).0 pr)) r) q → (t : Point) × Solves s t × SamePoint (split_point (game (each_problem_is_whole pr).0 pr) t) r → (p : Point) × Solves s p × SamePoint (front size p) q
      rows r same t =
          let k = coordinates g in
          let there : SamePoint (front k (split_point g t.0)) q = same_on (front k (split_point g t.0)) (front k r) q (front_same k (split_point g t.0) r t.2) same in
          let here : SamePoint (front k t.0) q = subst (λ (ys : List ℤ). SamePoint (record { den = t.0.den; nums = ys; positive = t.0.positive }) q) (split_front g t.0.nums (length (base_slots g)) (t.1.count ∙ (system n over).base)) there in
          (t.0, t.1, subst (λ j. SamePoint (front j t.0) q) (count_is n) here)

      split : (r : Point) × IsSplit (game (each_problem_is_whole pr).0 pr) r.den r.nums × SamePoint (front (coordinates (game (each_problem_is_whole pr).0 pr)) r) q → (p : Point) × Solves s p × SamePoint (front size p) q
      split r = rows r.0 r.2 (split_lifts n g s r.0 over.positive (h.made n over).game (h.made n over).leader (system n over) r.1)

-- ---- the laws
pub rows_are_sound : RowsAreSound
rows_are_sound pr s p h solves = sound pr s h p solves

pub rows_keep_order : RowsKeepOrder
rows_keep_order pr s p q h sp sq = keeps_order pr s h p q sp sq

pub rows_lift : RowsLift
rows_lift pr s q h solves = lifts pr s h q solves

-- ---- the way back
-- the first fractions stand for the first coordinates
pub front_stands : (n : ℕ) (fs : List Frac) (p : Point) → n ≤ length fs → StandsFor fs p → StandsFor (take n fs) (front n p)
front_stands n fs p l h =
    stands_from (take n fs) (front n p) (length-take-le n p.nums (let c = h.count in omega arith) ∙ sym (length-take-le n fs l)) (λ k f below.
    let short : length (take n fs) ≡ n = length-take-le n fs l in
    let here : k < n = omega (arith, short, below) in
    let one : get_or (take n fs) k f ≡ get_or fs k f = get_or-take n fs k f here in
    let two : cell (take n p.nums) k ≡ cell p.nums k = get_or-take n p.nums k (pos 0) here in
    subst₂ (λ (g : Frac) (z : ℤ). g.num *ℤ p.den ≡ z *ℤ g.den) (sym one) (sym two) (stands_at fs p h k f (omega (arith, here, l))))

-- The way back: a filled point is the file's, and a spread step is one of the file.
use Rattle.std.proofs.Common.{◌≡◌, ℕ, ◌<◌, ◌≤◌, List, take, length, get_or, arith, sym, ap, subst, ◌∙◌}
use Rattle.std.proofs.lemmas.List.{get_or-take, length-take-le, length-map}
use Rattle.emp_algebra.specs.Vector.{cell}
use Rattle.emp_num.specs.Ratio.{SameRatio}
use Rattle.emp_num.specs.Point.{Point, coordinate, StandsFor}
use Rattle.emp_num.specs.Whole.{whole}
use Rattle.emp_num.specs.declared.frac.Frac.{Frac}
use Rattle.emp_num.proofs.SamePoints.{cross_on}
use Rattle.emp_num.proofs.Standing.{stands_at}
use Rattle.emp_ast.specs.declared.model.Model.{Model}
use Rattle.emp_ast.specs.declared.annot.Annot.{Annot}
use Rattle.emp_poly.specs.Written.{entry}
use Rattle.emp_poly.specs.Quads.{as_ratio}
use Rattle.emp_problem.specs.Left.{left}
use Rattle.emp_problem.specs.ProblemOf.{left_variable, IsProblemOf}
use Rattle.emp_problem.specs.declared.problem.AgentProblem.{AgentProblem}
use Rattle.emp_subst.specs.Fill.{spread}
use Rattle.emp_subst.proofs.Filled.{left_entry, spread_count}
use Rattle.emp_solution.specs.Laws.{FilledIsFile, SpreadIsStep}
use Rattle.emp_solution.proofs.Fit.{base_reaches}

count_is : (m : Model) (a : Annot) (pr : AgentProblem) → IsProblemOf m a pr → length pr.variables ≡ length (left m a)
count_is m a pr h = ap length h.variables ∙ length-map (left m a) (left_variable m)

-- each entry of the list is the point's coordinate
stands : (fs : List Frac) (q : Point) (k : ℕ) → StandsFor fs q → k < length fs → SameRatio (as_ratio (entry fs k)) (coordinate q k)
stands fs q k h l = stands_at fs q h k (whole 0) l

pub filled_is_file : FilledIsFile
filled_is_file m a s fs values q p h count fill at to =
    let filled = fill.points p to in
    let n = length s.problem.variables in
    let reach = base_reaches s.problem s.system h.rows in
    let left_count = count_is m a s.problem h.problem in
    let within : n ≤ length fs = omega (arith, reach, count) in
    record {
      fits = filled.fits;
      definitions = filled.definitions;
      same = λ i l.
          let here : i < n = omega (arith, l, left_count) in
          let f = entry fs i in
          let first : entry (take n fs) i ≡ f = get_or-take n fs i (whole 0) here in
          let inside : i < length (take n fs) = subst (λ k. i < k) (sym (length-take-le n fs within)) here in
          let own : SameRatio (coordinate p (get_or (left m a) i 0)) (as_ratio f) = subst (λ (f : Frac). SameRatio (coordinate p (get_or (left m a) i 0)) (as_ratio f)) first (filled.left i inside) in
          cross_on (cell p.nums (get_or (left m a) i 0)) p.den f.num f.den (cell q.nums i) q.den f.positive own (stands fs q i at (omega (arith, here, within)));
    }

pub spread_is_step : SpreadIsStep
spread_is_step m a s gs d v h count at to =
    let reach = base_reaches s.problem s.system h.rows in
    let left_count = count_is m a s.problem h.problem in
    let size = spread_count m a gs 0 0 m.variables in (
      to.count ∙ size,
      λ i l.
          let k = get_or (left m a) i 0 in
          let f = entry gs i in
          let e = left_entry m a gs i l in
          let inside : k < length (spread m a gs) = subst (λ n. k < n) (sym size) e.inside in
          let own : SameRatio (as_ratio f) (coordinate v k) = subst (λ (f : Frac). SameRatio (as_ratio f) (coordinate v k)) e.value (stands (spread m a gs) v k to inside) in
          cross_on (cell v.nums k) v.den f.num f.den (cell d.nums i) d.den f.positive (sym own) (stands gs d i at (omega (arith, l, left_count, reach, count))),
    )

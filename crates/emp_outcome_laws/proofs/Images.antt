-- The point of the file that an accepted certificate tells of is there.
use Rattle.std.proofs.Common.{◌≡◌, ◌≤◌, ℕ, ◌<◌, ℤ, pos, ◌*ℤ◌, Bool, true, false, cond, List, [], ◌∷◌, take, length, get_or, arith, refl, sym, ap, ◌∙◌}
use Rattle.std.proofs.lemmas.List.{get_or-map, get_or-take, length-take-le}
use Rattle.emp_algebra.specs.Vector.{cell}
use Rattle.emp_algebra.proofs.Ring.{var, ◌⊗◌, by_ring}
use Rattle.emp_algebra.proofs.Vectors.{cell-scale}
use Rattle.emp_num.specs.declared.frac.Frac.{Frac}
use Rattle.emp_num.specs.Ratio.{SameRatio}
use Rattle.emp_num.specs.Point.{Point, coordinate}
use Rattle.emp_num.proofs.Commons.{common_point, stands_for_common}
use Rattle.emp_ast.specs.declared.model.Model.{Model}
use Rattle.emp_ast.specs.declared.annot.Annot.{Annot}
use Rattle.emp_rows.specs.declared.system.RowSystem.{RowSystem}
use Rattle.emp_cert.specs.declared.cert.Cert.{Cert}
use Rattle.emp_cert.specs.declared.cert.Verdict.{Verdict}
use Rattle.emp_cert.specs.declared.cert.Verdict.TheVariants.{Point as PointVerdict, Missing, Best, Unbounded}
use Rattle.emp_cert.specs.Certs.{VerdictFits}
use Rattle.emp_cert.specs.Verdicts.{VerdictShown}
use Rattle.emp_check.specs.declared.outcome.Checked.TheVariants.{Accepted, Rejected}
use Rattle.emp_check.specs.declared.outcome.Why.{Why}
use Rattle.emp_check.specs.declared.outcome.Why.TheVariants.{Sizes, Pairs}
use Rattle.emp_check.specs.Checks.{sizes_fit, links_fit, verdict_checked, checked}
use Rattle.emp_check.proofs.Verdicts.{verdict_shown, verdict_fits}
use Rattle.emp_problem.specs.Left.{left}
use Rattle.emp_meaning.specs.Laws.{Filled}
use Rattle.emp_meaning.proofs.Assembly.{coordinates_fill}
use Rattle.emp_verdict.specs.Laws.{IsFileOf}
use Rattle.emp_subst.specs.Fill.{spread}
use Rattle.emp_solution.specs.declared.state.Stated.{Stated}
use Rattle.emp_solution.specs.Stated.{IsStated}
use Rattle.emp_solution.specs.Tells.{VerdictTells}
use Rattle.emp_solution.proofs.Fit.{base_reaches}
use Rattle.emp_solution.proofs.Tells.{stated_tells}
use Rattle.emp_solution.proofs.Back.{spread_is_step}
use Rattle.emp_layers.proofs.Files.{left_are}
use Rattle.emp_outcome_laws.specs.Images.{VerdictStands, AcceptedStands}

-- ---- what is accepted
rejected_not : (node : ℕ) (w : Why) → Rejected node w ≡ Accepted → ⊥
rejected_not node w e = cc

-- an accepted certificate has the sizes of the system, and its verdict is shown
pub record Passed (s : RowSystem) (v : Verdict) : Type 0 where
  pub fits : VerdictFits s.base (length s.quantities) (length s.pairs) v
  pub shown : VerdictShown s v

pub accepted_passed : (s : RowSystem) (c : Cert) → checked s c ≡ Accepted → Passed s c.verdict
accepted_passed s c e = go (sizes_fit s c) (links_fit s c.links) refl refl e
  where
    go : (b d : Bool) → sizes_fit s c ≡ b → links_fit s c.links ≡ d → cond b (cond d (verdict_checked s s.objective c.verdict) (Rejected 0 Pairs)) (Rejected 0 Sizes) ≡ Accepted → Passed s c.verdict
    go true true f g h = let fit = verdict_fits s c f in record { fits = fit; shown = verdict_shown s s.objective c.verdict refl fit h }
    go true false f g h = absurd (rejected_not 0 Pairs h)
    go false d f g h = absurd (rejected_not 0 Sizes h)

-- ---- the point of the file
module _ (m : Model) (a : Annot) (s : Stated) (h : IsStated m a s) where
  -- a number for each variable that is left, and maybe more
  reaches : (fs : List Frac) → length fs ≡ s.system.base → length (left m a) ≤ length (common_point fs).nums
  reaches fs count =
      let reach = base_reaches s.problem s.system h.rows in
      let are = left_are m a s.problem h.problem in
      let long = (stands_for_common fs).count in
      omega (arith, reach, are, long, count)

  abbrev first_nums : List Frac → List ℤ
  first_nums fs = take (length (left m a)) (common_point fs).nums

  filled : (fs : List Frac) → length fs ≡ s.system.base → Filled m a (common_point fs).den (first_nums fs)
  filled fs count = coordinates_fill m a (common_point fs).den (first_nums fs) h.class (common_point fs).positive (length-take-le (length (left m a)) (common_point fs).nums (reaches fs count))

  same_at : (q : Point) (f : Filled m a q.den (take (length (left m a)) q.nums)) (i : ℕ) → i < length (left m a) → SameRatio (coordinate f.point (get_or (left m a) i 0)) (coordinate q i)
  same_at q f i l =
      let xs = take (length (left m a)) q.nums in
      let top : cell f.point.nums (get_or (left m a) i 0) ≡ f.times *ℤ cell q.nums i =
      sym (get_or-map (λ u. cell f.point.nums u) (left m a) i 0 (pos 0) l)
      ∙ (ap (λ (ys : List ℤ). cell ys i) f.nums ∙ (cell-scale f.times xs i ∙ ap (λ z. f.times *ℤ z) (get_or-take (length (left m a)) q.nums i (pos 0) l))) in
      ap (λ z. z *ℤ q.den) top
      ∙ (by_ring (f.times ∷ cell q.nums i ∷ q.den ∷ []) (var 0 ⊗ var 1 ⊗ var 2) (var 1 ⊗ (var 0 ⊗ var 2)) refl ∙ ap (λ z. cell q.nums i *ℤ z) (sym f.den))

  file_point : (fs : List Frac) → length fs ≡ s.system.base → (p : Point) × IsFileOf m a (common_point fs) p
  file_point fs count = let f = filled fs count in (f.point, record { fits = f.fits; definitions = f.definitions; same = same_at (common_point fs) f })

  stands : (v : Verdict) → VerdictFits s.system.base (length s.system.quantities) (length s.system.pairs) v → VerdictTells m a v → VerdictStands m a v
  stands (PointVerdict fs) fit tells =
      let p = file_point fs fit in
      let q = stands_for_common fs in
      record { row = common_point fs; point = p.0; stands = q; is = p.1; so = tells (common_point fs) p.0 q p.1 }
  stands (Missing t) fit tells = tt
  stands (Best fs t) fit tells =
      let p = file_point fs fit.0 in
      let q = stands_for_common fs in
      record { row = common_point fs; point = p.0; stands = q; is = p.1; so = tells (common_point fs) p.0 q p.1 }
  stands (Unbounded fs gs) fit tells =
      let p = file_point fs fit.0 in
      let q = stands_for_common fs in
      let d = stands_for_common gs in
      let v = common_point (spread m a gs) in
      let step = spread_is_step m a s gs (common_point gs) v h fit.1 d (stands_for_common (spread m a gs)) in
      record {
        row = common_point fs;
        row_step = common_point gs;
        point = p.0;
        step = v;
        stands = q;
        steps_stand = d;
        is = p.1;
        fits = step.0;
        same = step.1;
        ray = tells (common_point fs) (common_point gs) p.0 v q d p.1 step.0 step.1;
      }

pub accepted_stands : AcceptedStands
accepted_stands m a s c h e = let k = accepted_passed s.system c e in stands m a s h c.verdict k.fits (stated_tells m a s c.verdict h k.shown)

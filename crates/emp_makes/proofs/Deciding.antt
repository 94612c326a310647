-- A market's search comes to an equilibrium, since the market has one.
use Rattle.std.proofs.Common.{◌≡◌, ℕ, Bool, true, false, List, length, Ok, refl, sym, subst, ◌∙◌}
use Rattle.std.proofs.lemmas.Bool.{false≢true}
use Rattle.emp_num.specs.declared.frac.Frac.{Frac}
use Rattle.emp_num.specs.Point.{Point}
use Rattle.emp_num.proofs.Commons.{common_point, stands_for_common}
use Rattle.emp_ast.specs.declared.model.Model.{Model}
use Rattle.emp_ast.specs.declared.annot.Annot.{Annot}
use Rattle.emp_ast.specs.Equilibrium.{IsEquilibrium}
use Rattle.emp_cert.specs.declared.cert.Found.{Found}
use Rattle.emp_cert.specs.declared.cert.Verdict.{Verdict}
use Rattle.emp_cert.specs.declared.cert.Verdict.TheVariants.{Point as PointVerdict, Missing, Best, Unbounded}
use Rattle.emp_cert.specs.declared.tree.Tree.{Tree}
use Rattle.emp_cert.specs.Certs.{VerdictFits}
use Rattle.emp_cert.specs.Verdicts.{VerdictShown}
use Rattle.emp_walk.specs.Founds.{FoundGives}
use Rattle.emp_problem.specs.Class.{SolvesBy}
use Rattle.emp_solution.specs.declared.state.Stated.{Stated}
use Rattle.emp_solution.specs.Stated.{IsStated}
use Rattle.emp_solution.proofs.Rows.{stated_has_rows}
use Rattle.emp_solution.proofs.Tells.{stated_tells, is_bilevel}
use Rattle.emp_solution.proofs.Back.{filled_is_file}
use Rattle.emp_outcomes.specs.Outcomes.{Fills}
use Rattle.emp_duopoly.specs.Laws.{MarketsHaveEquilibria}
use Rattle.emp_make.specs.Markets.{IsMarket}

-- ---- no other verdict
module _ (m : Model) (a : Annot) (s : Stated) (i : IsStated m a s) (single : a.bilevel ≡ false) where
  -- the system has no objective
  never_leads : (b : Bool) → a.bilevel ≡ b → b ≡ true → ⊥
  never_leads b e f = false≢true (sym single ∙ (e ∙ f))

  pub never_missing : (t : Tree) (p : Point) → IsEquilibrium m a p → VerdictShown s.system (Missing t) → ⊥
  never_missing t p h shown = stated_tells m a s (Missing t) i shown p (subst (λ b. SolvesBy b m a p) (sym single) h)

  pub never_best : (fs : List Frac) (t : Tree) → VerdictShown s.system (Best fs t) → ⊥
  never_best fs t shown = never_leads a.bilevel refl (is_bilevel m a s.system (stated_has_rows m a s i) shown.0 shown.1)

  pub never_unbounded : (fs gs : List Frac) → VerdictShown s.system (Unbounded fs gs) → ⊥
  never_unbounded fs gs shown = never_leads a.bilevel refl (is_bilevel m a s.system (stated_has_rows m a s i) shown.0 shown.1)

-- by what was found
module _ (law : MarketsHaveEquilibria) (seed firms : ℕ) (m : Model) (a : Annot) (h : IsMarket seed firms m a) (s : Stated) (i : IsStated m a s) (work : ℕ) (f : Found) (g : FoundGives s.system work f) where
  shown : (v : Verdict) → f.cert.verdict ≡ v → VerdictShown s.system v
  shown v e = subst (VerdictShown s.system) e g.shown

  pub is_not_missing : (t : Tree) → f.cert.verdict ≡ Missing t → ⊥
  is_not_missing t e = let p = law seed firms m a h in never_missing m a s i h.annot.bilevel t p.0 p.1 (shown (Missing t) e)

  pub is_not_best : (fs : List Frac) (t : Tree) → f.cert.verdict ≡ Best fs t → ⊥
  is_not_best fs t e = never_best m a s i h.annot.bilevel fs t (shown (Best fs t) e)

  pub is_not_unbounded : (fs gs : List Frac) → f.cert.verdict ≡ Unbounded fs gs → ⊥
  is_not_unbounded fs gs e = never_unbounded m a s i h.annot.bilevel fs gs (shown (Unbounded fs gs) e)

-- ---- the point that was found
module _ (m : Model) (a : Annot) (s : Stated) (i : IsStated m a s) (work : ℕ) (f : Found) (g : FoundGives s.system work f) (fs : List Frac) (e : f.cert.verdict ≡ PointVerdict fs) where
  pub point_fits : length fs ≡ s.system.base
  point_fits = subst (VerdictFits f.cert.base f.cert.quantities f.cert.pairs) e f.cert.fits ∙ g.names.base

  -- the point that the values stand for is an equilibrium
  pub values_solve : (values : List Frac) → Fills m a s fs (Ok values) → IsEquilibrium m a (common_point values)
  values_solve values filled =
      let shown : VerdictShown s.system (PointVerdict fs) = subst (VerdictShown s.system) e g.shown in
      let q = stands_for_common fs in
      let p = stands_for_common values in
      stated_tells m a s (PointVerdict fs) i shown (common_point fs) (common_point values) q (filled_is_file m a s fs values (common_point fs) (common_point values) i point_fits filled q p)

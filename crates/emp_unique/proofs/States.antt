-- A file has one problem and one row system, and with these it has no fault.
use Rattle.std.proofs.Common.{◌≡◌, ◌≢◌, ◌⊎◌, inl, inr, ℕ, Ok, Err, refl, subst}
use Rattle.std.proofs.lemmas.Option.{slice_get_within}
use Rattle.emp_ast.specs.declared.tree.Tree.{Tree}
use Rattle.emp_ast.specs.declared.model.Model.{Model}
use Rattle.emp_ast.specs.declared.annot.Annot.{Annot}
use Rattle.emp_rows.specs.declared.system.RowSystem.{RowSystem}
use Rattle.emp_form.specs.Expansion.{expression_at}
use Rattle.emp_form.proofs.OneFault.{one_fault}
use Rattle.emp_ldl.specs.declared.squares.Curve.{Curve}
use Rattle.emp_ldl.specs.declared.squares.Curve.TheVariants as Curved
use Rattle.emp_poly.specs.declared.tree.PolyFault.{PolyFault}
use Rattle.emp_poly.specs.declared.tree.PolyFault.TheVariants as PolyWords
use Rattle.emp_poly.specs.Trees.{FromTreeGives}
use Rattle.emp_problem.specs.declared.problem.AgentProblem.{AgentProblem}
use Rattle.emp_problem.specs.ProblemOf.{IsProblemOf}
use Rattle.emp_subst.specs.Subst.{IsExpanded, AllExpand, IsFirstFault, PolyGives}
use Rattle.emp_share.specs.Share.{BlockEnds}
use Rattle.emp_kkt.specs.Gives.{Fits, IsFirstWide, base_count, numbered, KktGives}
use Rattle.emp_solution.specs.declared.state.StateFault.TheVariants.{Poly, Quadratic, LeaderNotLinear, NotConvex, WideCurve, TooLarge, WideRow, NoMemory}
use Rattle.emp_solution.specs.declared.state.Stated.{Stated}
use Rattle.emp_solution.specs.Stated.{IsStated, HasUnfit}
use Rattle.emp_unique.specs.Laws.{OneState, StatedHasNoFault}
use Rattle.emp_unique.proofs.Problems.{one_problem}
use Rattle.emp_unique.proofs.Folds.{all_end, not_memory, wide_memory}
use Rattle.emp_unique.proofs.Systems.{systems_same, system_not_wide}

-- ---- one state
stated_eq : (s t : Stated) → s.problem ≡ t.problem → s.system ≡ t.system → s ≡ t
stated_eq s t e f = same s.problem t.problem s.system t.system e f
  where
    same : (p q : AgentProblem) (x y : RowSystem) → p ≡ q → x ≡ y → ◌≡◌ {A = Stated} (record { problem = p; system = x }) (record { problem = q; system = y })
    same p q x y e f = rw (e, f) refl

pub one_state : OneState
one_state m a s t h k =
    let e = one_problem m a s.problem t.problem h.class h.problem k.problem in
    stated_eq s t e (systems_same t.problem s.system t.system (subst (λ (pr : AgentProblem). KktGives pr (Ok s.system)) e h.rows) k.rows)

-- ---- no fault of a tree, where all trees are expanded
first_none : (m : Model) (f : PolyFault) → AllExpand m → ((t : Tree) → IsExpanded t → FromTreeGives t (Err f) → ⊥) → IsFirstFault m f → ⊥
first_none m f all sound x = go x.fault
  where
    both : IsExpanded x.equation.left × IsExpanded x.equation.right
    both = all x.at x.equation (slice_get_within m.equations x.at x.equation x.is) x.is

    go : FromTreeGives x.equation.left (Err f) ⊎ (IsExpanded x.equation.left × FromTreeGives x.equation.right (Err f)) → ⊥
    go (inl l) = sound x.equation.left both.0 l
    go (inr r) = sound x.equation.right both.1 r.1

pub no_poly : (m : Model) (f : PolyFault) → AllExpand m → PolyGives m f → ⊥
no_poly m PolyWords.NoMemory all x = x
no_poly m (PolyWords.Degree p) all x = first_none m (PolyWords.Degree p) all (λ t e y. (one_fault (expression_at t.nodes y.at)).degree y.fault (e.1.free y.at y.within).0) x
no_poly m (PolyWords.DivideByVariable p) all x =
    first_none m (PolyWords.DivideByVariable p) all (λ t e y. (one_fault (expression_at t.nodes y.at)).by_variable y.fault (e.1.free y.at y.within).0) x
no_poly m (PolyWords.DivideByZero p) all x =
    first_none m (PolyWords.DivideByZero p) all (λ t e y. (one_fault (expression_at t.nodes y.at)).by_zero y.fault (e.1.free y.at y.within).0) x
no_poly m (PolyWords.Wide p) all x = first_none m (PolyWords.Wide p) all (λ t e y. (e.1.free y.at y.within).1 y.fault.1) x

-- ---- no fault of the problem, its agents and its rows
no_end : (m : Model) (a : Annot) (s : Stated) (number : ℕ) (c : Curve) → c ≢ Curved.NoMemory → IsStated m a s → HasUnfit m a (λ pr. BlockEnds pr number c) → ⊥
no_end m a s number c named h x =
    all_end s.problem number c named h.convex (subst (λ (pr : AgentProblem). BlockEnds pr number c) (one_problem m a x.problem s.problem h.class x.is h.problem) x.fault)

no_rows : (m : Model) (a : Annot) (s : Stated) (P : AgentProblem → Type 0) → ((pr : AgentProblem) → KktGives pr (Ok s.system) → P pr → ⊥) → IsStated m a s → (pr : AgentProblem) → IsProblemOf m a pr → P pr → ⊥
no_rows m a s P sound h pr is x = sound s.problem h.rows (subst P (one_problem m a pr s.problem h.class is h.problem) x)

pub stated_has_no_fault : StatedHasNoFault
stated_has_no_fault m a s (Poly f) h x = absurd (no_poly m f h.expanded x)
stated_has_no_fault m a s (Quadratic e u v) h x = absurd (x.square.here ((h.class.linear e.at x.equation x.is x.affine).square u.at v.at x.square.ordered))
stated_has_no_fault m a s (LeaderNotLinear u v) h x = absurd (x.square.here ((h.class.leads x.bilevel).square u.at v.at x.square.ordered))
stated_has_no_fault m a s (NotConvex b k) h x = absurd (no_end m a s b (Curved.Not k) (not_memory k) h x)
stated_has_no_fault m a s (WideCurve b k) h x = absurd (no_end m a s b (Curved.Wide k) (wide_memory k) h x)
stated_has_no_fault m a s TooLarge h x = absurd (no_rows m a s (λ pr. Fits pr → ⊥) (λ pr k y. y k.fits) h x.problem x.is x.fault.1)
stated_has_no_fault m a s (WideRow i) h x =
    absurd (no_rows m a s (λ pr. Fits pr × IsFirstWide pr (base_count pr) (numbered pr) i) (λ pr k y. system_not_wide pr s.system i k y.1) h x.problem x.is x.fault.1)
stated_has_no_fault m a s NoMemory h x = refl

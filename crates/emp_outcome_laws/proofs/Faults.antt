-- A file that has no row system has one fault.
use Rattle.std.proofs.Common.{◌≡◌, ◌≢◌, ◌⊎◌, inl, inr, ℕ, ◌<◌, Result, Ok, Err, refl, sym, ap, subst, ◌∙◌}
use Rattle.std.specs.Prelude.{slice_get}
use Rattle.std.proofs.lemmas.Bool.{cases_order}
use Rattle.std.proofs.lemmas.Option.{same_Some, slice_get_within}
use Rattle.emp_ast.specs.declared.tree.VarId.{VarId}
use Rattle.emp_ast.specs.declared.tree.EquId.{EquId}
use Rattle.emp_ast.specs.declared.model.Equation.{Equation}
use Rattle.emp_ast.specs.declared.model.Model.{Model}
use Rattle.emp_ast.specs.declared.annot.Annot.{Annot}
use Rattle.emp_ast.specs.Parties.{leader}
use Rattle.emp_form.specs.Form.{Form, IsLinear}
use Rattle.emp_form.specs.Expansion.{form}
use Rattle.emp_agents.specs.Given.{difference, given_form}
use Rattle.emp_poly.specs.declared.tree.PolyFault.{PolyFault}
use Rattle.emp_rows.specs.declared.system.RowSystem.{RowSystem}
use Rattle.emp_problem.specs.declared.problem.AgentProblem.{AgentProblem}
use Rattle.emp_subst.specs.Subst.{AllLinear, IsFirstSquare, IsFirstQuadratic, IsLeaderQuadratic, PolyGives}
use Rattle.emp_share.specs.declared.share.ShareFault.{ShareFault}
use Rattle.emp_share.specs.declared.share.ShareFault.TheVariants as ShareWords
use Rattle.emp_share.specs.Share.{ShareGives}
use Rattle.emp_kkt.specs.declared.make.KktFault.{KktFault}
use Rattle.emp_kkt.specs.declared.make.KktFault.TheVariants as KktWords
use Rattle.emp_kkt.specs.Gives.{KktGives}
use Rattle.emp_solution.specs.declared.state.StateFault.{StateFault}
use Rattle.emp_solution.specs.declared.state.StateFault.TheVariants.{Poly, Quadratic, LeaderNotLinear, NotConvex, WideCurve, TooLarge, WideRow, NoMemory}
use Rattle.emp_solution.specs.Stated.{StateGives, HasUnfit, HasUnmade}
use Rattle.emp_unique.proofs.Problems.{one_problem}
use Rattle.emp_unique.proofs.Folds.{one_test}
use Rattle.emp_unique.proofs.Systems.{one_system}
use Rattle.emp_unique.proofs.States.{no_poly}
use Rattle.emp_outcome_laws.specs.Laws.{OneFault}
use Rattle.emp_outcome_laws.proofs.Trees.{one_poly}

-- ---- the first pair with a coefficient
no_square : (f : Form) (u v : ℕ) → IsLinear f → IsFirstSquare f u v → ⊥
no_square f u v l x = x.here (l.square u v x.ordered)

record SamePair (u v w z : ℕ) : Type 0 where
  first : u ≡ w
  second : v ≡ z

one_square : (f : Form) (u v w z : ℕ) → IsFirstSquare f u v → IsFirstSquare f w z → SamePair u v w z
one_square f u v w z x y = go (cases_order u w)
  where
    by : u ≡ w → (v ≡ z) ⊎ ((v < z) ⊎ (z < v)) → SamePair u v w z
    by e (inl s) = record { first = e; second = s }
    by e (inr (inl l)) = absurd (x.here (y.before u v x.ordered (inr (e, l))))
    by e (inr (inr l)) = absurd (y.here (x.before w z y.ordered (inr (sym e, l))))

    go : (u ≡ w) ⊎ ((u < w) ⊎ (w < u)) → SamePair u v w z
    go (inl e) = by e (cases_order v z)
    go (inr (inl l)) = absurd (x.here (y.before u v x.ordered (inl l)))
    go (inr (inr l)) = absurd (y.here (x.before w z y.ordered (inl l)))

quadratic_is : (d e : EquId) (u v w z : VarId) → d.at ≡ e.at → SamePair u.at v.at w.at z.at → Quadratic d u v ≡ Quadratic e w z
quadratic_is d e u v w z h s = made d.at e.at u.at w.at v.at z.at h s.first s.second
  where
    made : (i j k l g h : ℕ) → i ≡ j → k ≡ l → g ≡ h → Quadratic (record { at = i }) (record { at = k }) (record { at = g }) ≡ Quadratic (record { at = j }) (record { at = l }) (record { at = h })
    made i j k l g h a b c = rw (a, b, c) refl

leader_is : (u v w z : VarId) → SamePair u.at v.at w.at z.at → LeaderNotLinear u v ≡ LeaderNotLinear w z
leader_is u v w z s = made u.at w.at v.at z.at s.first s.second
  where
    made : (k l g h : ℕ) → k ≡ l → g ≡ h → LeaderNotLinear (record { at = k }) (record { at = g }) ≡ LeaderNotLinear (record { at = l }) (record { at = h })
    made k l g h b c = rw (b, c) refl

no_quadratic : (m : Model) (a : Annot) (e : EquId) (u v : VarId) → AllLinear m a → IsFirstQuadratic m a e u v → ⊥
no_quadratic m a e u v all x =
    no_square (form (difference x.equation)) u.at v.at (all e.at x.equation (slice_get_within m.equations e.at x.equation x.is) x.is x.affine) x.square

one_quadratic : (m : Model) (a : Annot) (d e : EquId) (u v w z : VarId) → IsFirstQuadratic m a d u v → IsFirstQuadratic m a e w z → Quadratic d u v ≡ Quadratic e w z
one_quadratic m a d e u v w z x y = go (cases_order d.at e.at)
  where
    go : (d.at ≡ e.at) ⊎ ((d.at < e.at) ⊎ (e.at < d.at)) → Quadratic d u v ≡ Quadratic e w z
    go (inl s) =
        let same : x.equation ≡ y.equation = same_Some x.equation y.equation (sym x.is ∙ (ap (slice_get m.equations) s ∙ y.is)) in
        quadratic_is d e u v w z s
        (one_square (form (difference y.equation)) u.at v.at w.at z.at (subst (λ (q : Equation). IsFirstSquare (form (difference q)) u.at v.at) same x.square) y.square)
    go (inr (inl l)) = absurd (no_square (form (difference x.equation)) u.at v.at (y.before d.at x.equation l x.is x.affine) x.square)
    go (inr (inr l)) = absurd (no_square (form (difference y.equation)) w.at z.at (x.before e.at y.equation l y.is y.affine) y.square)

one_leader : (m : Model) (a : Annot) (u v w z : VarId) → IsLeaderQuadratic m a u v → IsLeaderQuadratic m a w z → LeaderNotLinear u v ≡ LeaderNotLinear w z
one_leader m a u v w z x y = leader_is u v w z (one_square (given_form m a leader) u.at v.at w.at z.at x.square y.square)

-- ---- the test of the agents, and the rows
abbrev of_share : ShareFault → StateFault
of_share (ShareWords.NotConvex b k) = NotConvex b k
of_share (ShareWords.WideCurve b k) = WideCurve b k
of_share ShareWords.NoMemory = NoMemory

abbrev of_rows : KktFault → StateFault
of_rows KktWords.TooLarge = TooLarge
of_rows (KktWords.WideRow k) = WideRow k
of_rows KktWords.NoMemory = NoMemory

same_error : (E : Type 0) (f g : E) (A : Type 0) → ◌≡◌ {A = Result A E} (Err f) (Err g) → f ≡ g
same_error E f g A e = cc

not_error : (E : Type 0) (f : E) (A : Type 0) (x : A) → ◌≡◌ {A = Result A E} (Ok x) (Err f) → ⊥
not_error E f A x e = cc

abbrev Unshared : Model → Annot → ShareFault → Type 0
Unshared m a e = HasUnfit m a (λ pr. ShareGives pr (Err e))

abbrev Unmade : Model → Annot → KktFault → Type 0
Unmade m a e = HasUnmade m a (λ pr. KktGives pr (Err e))

module _ (m : Model) (a : Annot) where
  one_share : (e f : ShareFault) → e ≢ ShareWords.NoMemory → f ≢ ShareWords.NoMemory → Unshared m a e → Unshared m a f → e ≡ f
  one_share e f n o x y =
      let same = one_problem m a x.problem y.problem x.class x.is y.is in
      same_error ShareFault e f (Unit {0})
      (one_test y.problem (Err e) (Err f) (λ h. n (same_error ShareFault e ShareWords.NoMemory (Unit {0}) h)) (λ h. o (same_error ShareFault f ShareWords.NoMemory (Unit {0}) h))
      (subst (λ (pr : AgentProblem). ShareGives pr (Err e)) same x.fault) y.fault)

  share_or_rows : (e : ShareFault) (f : KktFault) → e ≢ ShareWords.NoMemory → Unshared m a e → Unmade m a f → ⊥
  share_or_rows e f n x y =
      let same = one_problem m a x.problem y.problem x.class x.is y.is in
      not_error ShareFault e (Unit {0}) tt
      (one_test y.problem (Ok tt) (Err e) (not_error ShareFault ShareWords.NoMemory (Unit {0}) tt) (λ h. n (same_error ShareFault e ShareWords.NoMemory (Unit {0}) h)) y.fault.0
      (subst (λ (pr : AgentProblem). ShareGives pr (Err e)) same x.fault))

  one_rows : (e f : KktFault) → e ≢ KktWords.NoMemory → f ≢ KktWords.NoMemory → Unmade m a e → Unmade m a f → e ≡ f
  one_rows e f n o x y =
      let same = one_problem m a x.problem y.problem x.class x.is y.is in
      same_error KktFault e f RowSystem
      (one_system y.problem (Err e) (Err f) (λ h. n (same_error KktFault e KktWords.NoMemory RowSystem h)) (λ h. o (same_error KktFault f KktWords.NoMemory RowSystem h))
      (subst (λ (pr : AgentProblem). KktGives pr (Err e)) same x.fault.1) y.fault.1)

-- ---- where a file fails
data Stage (m : Model) (a : Annot) : StateFault → Type 0 where
  at_tree : (f : PolyFault) → PolyGives m f → Stage m a (Poly f)
  at_equation : (e : EquId) (u v : VarId) → IsFirstQuadratic m a e u v → Stage m a (Quadratic e u v)
  at_leader : (u v : VarId) → IsLeaderQuadratic m a u v → Stage m a (LeaderNotLinear u v)
  at_agent : (f : ShareFault) → f ≢ ShareWords.NoMemory → Unshared m a f → Stage m a (of_share f)
  at_row : (f : KktFault) → f ≢ KktWords.NoMemory → Unmade m a f → Stage m a (of_rows f)

share_named : (b k : ℕ) → ShareWords.NotConvex b k ≢ ShareWords.NoMemory
share_named b k e = cc

curve_named : (b k : ℕ) → ShareWords.WideCurve b k ≢ ShareWords.NoMemory
curve_named b k e = cc

large_named : KktWords.TooLarge ≢ KktWords.NoMemory
large_named e = cc

wide_named : (k : ℕ) → KktWords.WideRow k ≢ KktWords.NoMemory
wide_named k e = cc

stage_of : (m : Model) (a : Annot) (f : StateFault) → f ≢ NoMemory → StateGives m a (Err f) → Stage m a f
stage_of m a (Poly f) n h = at_tree f h
stage_of m a (Quadratic e u v) n h = at_equation e u v h
stage_of m a (LeaderNotLinear u v) n h = at_leader u v h
stage_of m a (NotConvex b k) n h = at_agent (ShareWords.NotConvex b k) (share_named b k) h
stage_of m a (WideCurve b k) n h = at_agent (ShareWords.WideCurve b k) (curve_named b k) h
stage_of m a TooLarge n h = at_row KktWords.TooLarge large_named h
stage_of m a (WideRow k) n h = at_row (KktWords.WideRow k) (wide_named k) h
stage_of m a NoMemory n h = absurd (n refl)

module _ (m : Model) (a : Annot) where
  -- where the trees are expanded, and the file is of the class, so far nothing fails
  class_equation : (P : AgentProblem → Type 0) (e : EquId) (u v : VarId) → HasUnfit m a P → IsFirstQuadratic m a e u v → ⊥
  class_equation P e u v h x = no_square (form (difference x.equation)) u.at v.at (h.class.linear e.at x.equation x.is x.affine) x.square

  class_leader : (P : AgentProblem → Type 0) (u v : VarId) → HasUnfit m a P → IsLeaderQuadratic m a u v → ⊥
  class_leader P u v h x = no_square (given_form m a leader) u.at v.at (h.class.leads x.bilevel) x.square

  one_stage : (f g : StateFault) → Stage m a f → Stage m a g → f ≡ g
  one_stage f g (at_tree x h) (at_tree y k) = ap Poly (one_poly m x y h k)
  one_stage f g (at_tree x h) (at_equation e u v k) = absurd (no_poly m x k.expanded h)
  one_stage f g (at_tree x h) (at_leader u v k) = absurd (no_poly m x k.expanded h)
  one_stage f g (at_tree x h) (at_agent y o k) = absurd (no_poly m x k.expanded h)
  one_stage f g (at_tree x h) (at_row y o k) = absurd (no_poly m x k.expanded h)
  one_stage f g (at_equation e u v h) (at_tree y k) = absurd (no_poly m y h.expanded k)
  one_stage f g (at_equation e u v h) (at_equation d w z k) = one_quadratic m a e d u v w z h k
  one_stage f g (at_equation e u v h) (at_leader w z k) = absurd (no_quadratic m a e u v k.linear h)
  one_stage f g (at_equation e u v h) (at_agent y o k) = absurd (class_equation (λ pr. ShareGives pr (Err y)) e u v k h)
  one_stage f g (at_equation e u v h) (at_row y o k) = absurd (class_equation (λ pr. ShareGives pr (Ok tt) × KktGives pr (Err y)) e u v k h)
  one_stage f g (at_leader u v h) (at_tree y k) = absurd (no_poly m y h.expanded k)
  one_stage f g (at_leader u v h) (at_equation d w z k) = absurd (no_quadratic m a d w z h.linear k)
  one_stage f g (at_leader u v h) (at_leader w z k) = one_leader m a u v w z h k
  one_stage f g (at_leader u v h) (at_agent y o k) = absurd (class_leader (λ pr. ShareGives pr (Err y)) u v k h)
  one_stage f g (at_leader u v h) (at_row y o k) = absurd (class_leader (λ pr. ShareGives pr (Ok tt) × KktGives pr (Err y)) u v k h)
  one_stage f g (at_agent x n h) (at_tree y k) = absurd (no_poly m y h.expanded k)
  one_stage f g (at_agent x n h) (at_equation d w z k) = absurd (class_equation (λ pr. ShareGives pr (Err x)) d w z h k)
  one_stage f g (at_agent x n h) (at_leader w z k) = absurd (class_leader (λ pr. ShareGives pr (Err x)) w z h k)
  one_stage f g (at_agent x n h) (at_agent y o k) = ap of_share (one_share m a x y n o h k)
  one_stage f g (at_agent x n h) (at_row y o k) = absurd (share_or_rows m a x y n h k)
  one_stage f g (at_row x n h) (at_tree y k) = absurd (no_poly m y h.expanded k)
  one_stage f g (at_row x n h) (at_equation d w z k) = absurd (class_equation (λ pr. ShareGives pr (Ok tt) × KktGives pr (Err x)) d w z h k)
  one_stage f g (at_row x n h) (at_leader w z k) = absurd (class_leader (λ pr. ShareGives pr (Ok tt) × KktGives pr (Err x)) w z h k)
  one_stage f g (at_row x n h) (at_agent y o k) = absurd (share_or_rows m a y x o k h)
  one_stage f g (at_row x n h) (at_row y o k) = ap of_rows (one_rows m a x y n o h k)

pub one_fault : OneFault
one_fault m a f g n o h k = one_stage m a f g (stage_of m a f n h) (stage_of m a g o k)

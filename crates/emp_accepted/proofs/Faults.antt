-- An accepted pair has no fault but that a number is wide, and breaks no rule of ownership.
use Rattle.std.proofs.Common.{◌≡◌, ◌⊎◌, inl, inr, ℕ, zero, suc, Bool, false, List, [], ◌∷◌, take, Err, refl, sym, ◌∙◌}
use Rattle.std.proofs.lemmas.Bool.{or_parts, or_from, false≢true}
use Rattle.emp_num.specs.Point.{Point}
use Rattle.emp_ast.specs.declared.tree.VarId.{VarId}
use Rattle.emp_ast.specs.declared.tree.Place.{Place}
use Rattle.emp_ast.specs.declared.tree.Tree.{Tree}
use Rattle.emp_ast.specs.declared.model.Model.{Model}
use Rattle.emp_ast.specs.declared.annot.Annot.{Annot}
use Rattle.emp_ast.specs.Expression.{expression_of}
use Rattle.emp_ast.specs.Parties.{names_variable}
use Rattle.emp_ast.specs.Convex.{IsBetween, counted, IsConvexUpTo, IsConvex}
use Rattle.emp_form.specs.Expansion.{IsPolynomial, HasDegree, DividesByVariable, DividesByZero, expression_at}
use Rattle.emp_form.proofs.OneFault.{one_fault}
use Rattle.emp_owner.specs.declared.owned.OwnFault.TheVariants as OwnWords
use Rattle.emp_owner.specs.Settled.{IsFirst, NoneOf}
use Rattle.emp_poly.specs.declared.tree.PolyFault.{PolyFault}
use Rattle.emp_poly.specs.declared.tree.PolyFault.TheVariants as PolyWords
use Rattle.emp_poly.specs.Trees.{FromTreeGives}
use Rattle.emp_poly.specs.Trees as Trees
use Rattle.emp_problem.specs.Class.{Expands}
use Rattle.emp_subst.specs.Subst.{IsExpanded, IsFirstFault}
use Rattle.emp_share.specs.declared.share.ShareFault.TheVariants as ShareWords
use Rattle.emp_share.proofs.Files.{fault_tells}
use Rattle.emp_solution.specs.declared.state.StateFault.TheVariants.{Poly, Quadratic, LeaderNotLinear, NotConvex, WideCurve, TooLarge, WideRow, NoMemory}
use Rattle.emp_accepted.specs.Accepted.{IsAcceptedPair}
use Rattle.emp_accepted.specs.Laws.{AcceptedAreStated, AcceptedBreakNone}
use Rattle.emp_accepted.proofs.Roots.{roots_fit}

-- ---- trees of polynomials
no_degree : (t : Tree) (p : Place) → IsPolynomial (expression_of t.nodes) → Trees.IsFirst t p HasDegree → ⊥
no_degree t p h f = (one_fault (expression_at t.nodes f.at)).degree f.fault (roots_fit t f.at h f.within)

no_variable : (t : Tree) (p : Place) → IsPolynomial (expression_of t.nodes) → Trees.IsFirst t p DividesByVariable → ⊥
no_variable t p h f = (one_fault (expression_at t.nodes f.at)).by_variable f.fault (roots_fit t f.at h f.within)

no_zero : (t : Tree) (p : Place) → IsPolynomial (expression_of t.nodes) → Trees.IsFirst t p DividesByZero → ⊥
no_zero t p h f = (one_fault (expression_at t.nodes f.at)).by_zero f.fault (roots_fit t f.at h f.within)

-- a fault that no tree of a polynomial has is the first of no accepted pair
none_first : (m : Model) (a : Annot) (f : PolyFault) → IsAcceptedPair m a → ((t : Tree) → IsPolynomial (expression_of t.nodes) → FromTreeGives t (Err f) → ⊥) → IsFirstFault m f → ⊥
none_first m a f h none first = go first.fault
  where
    sides : Expands first.equation
    sides = h.class.expanded first.at first.equation first.is

    go : FromTreeGives first.equation.left (Err f) ⊎ (IsExpanded first.equation.left × FromTreeGives first.equation.right (Err f)) → ⊥
    go (inl g) = none first.equation.left sides.0 g
    go (inr g) = none first.equation.right sides.1 g.1

-- ---- an agent that is convex in all its counted variables is so in the first ones
unnamed : (n : ℕ) (vs : List VarId) (v : ℕ) → names_variable vs v ≡ false → names_variable (take n vs) v ≡ false
unnamed zero vs v h = refl
unnamed (suc n) [] v h = refl
unnamed (suc n) (x ∷ vs) v h =
    let parts = or_parts _ _ h in
    or_from _ _ parts.0 (unnamed n vs v parts.1)

fewer_between : (m : Model) (n : ℕ) (vs : List VarId) (p q r : Point) → IsBetween m (λ v. names_variable (take n vs) v) p q r → IsBetween m (λ v. names_variable vs v) p q r
fewer_between m n vs p q r b = record {
  fits = b.fits;
  half = b.half;
  outside = λ v e. b.outside v (unnamed n vs v e);
}

convex_up_to : (m : Model) (a : Annot) (k n : ℕ) → IsConvex m a k → IsConvexUpTo m a k n
convex_up_to m a k n h = λ s w is p q r b. h s w is p q r (fewer_between m n (counted m a k) p q r b)

-- ---- the laws
pub accepted_are_stated : AcceptedAreStated
accepted_are_stated m a (Poly (PolyWords.Wide p)) h g = tt
accepted_are_stated m a (Poly (PolyWords.Degree p)) h g = none_first m a (PolyWords.Degree p) h (λ t. no_degree t p) g
accepted_are_stated m a (Poly (PolyWords.DivideByVariable p)) h g = none_first m a (PolyWords.DivideByVariable p) h (λ t. no_variable t p) g
accepted_are_stated m a (Poly (PolyWords.DivideByZero p)) h g = none_first m a (PolyWords.DivideByZero p) h (λ t. no_zero t p) g
accepted_are_stated m a (Poly PolyWords.NoMemory) h g = tt
accepted_are_stated m a (Quadratic e u v) h g = g.square.here ((h.class.linear e.at g.equation g.is g.affine).square u.at v.at g.square.ordered)
accepted_are_stated m a (LeaderNotLinear u v) h g = g.square.here ((h.class.leads g.bilevel).square u.at v.at g.square.ordered)
accepted_are_stated m a (NotConvex b k) h g =
    let says = fault_tells m a g.problem g.is g.class (ShareWords.NotConvex b k) g.fault in
    says.not (convex_up_to m a says.least.at k (h.convex says.least.at says.least.below))
accepted_are_stated m a (WideCurve b k) h g = tt
accepted_are_stated m a TooLarge h g = g.fault.1 (h.sizes g.problem g.is)
accepted_are_stated m a (WideRow k) h g = tt
accepted_are_stated m a NoMemory h g = tt

-- what no variable or equation passes has no first that passes
none_breaks : (n k : ℕ) (test : ℕ → Bool) → NoneOf n test → IsFirst n test k → ⊥
none_breaks n k test none first = false≢true (sym (none k first.0) ∙ first.1)

pub accepted_break_none : AcceptedBreakNone
accepted_break_none m a OwnWords.LeaderMissing ne h g = false≢true (sym h.class.kept.0.0.0.0.0.0.0.0.0.0.0 ∙ g)
accepted_break_none m a (OwnWords.Unowned v) ne h g = none_breaks _ v.at _ h.class.kept.0.0.0.0.0.0.0.0.0.0.1 g.1
accepted_break_none m a (OwnWords.OwnedTwice v) ne h g = none_breaks _ v.at _ h.class.kept.0.0.0.0.0.0.0.0.0.1 g.1
accepted_break_none m a (OwnWords.EquationTwice e) ne h g = none_breaks _ e.at _ h.class.kept.0.0.0.0.0.0.0.0.1 g.1
accepted_break_none m a (OwnWords.EquationLeft e) ne h g = none_breaks _ e.at _ h.class.kept.0.0.0.0.0.0.0.1 g.1
accepted_break_none m a (OwnWords.ViRelation e) ne h g = none_breaks _ e.at _ h.class.kept.0.0.0.0.0.0.1 g.1
accepted_break_none m a (OwnWords.NotConstraint e) ne h g = none_breaks _ e.at _ h.class.kept.0.0.0.0.0.1 g.1
accepted_break_none m a (OwnWords.DualShared e) ne h g = none_breaks _ e.at _ h.class.kept.0.0.0.0.1 g.1
accepted_break_none m a (OwnWords.DualTwice e) ne h g = none_breaks _ e.at _ h.class.kept.0.0.0.1 g.1
accepted_break_none m a (OwnWords.DualBound v) ne h g = none_breaks _ v.at _ h.class.kept.0.0.1 g.1
accepted_break_none m a (OwnWords.ImplicitUse v) ne h g = none_breaks _ v.at _ h.class.kept.0.1 g.1
accepted_break_none m a (OwnWords.ImplicitRelation e) ne h g = none_breaks _ e.at _ h.class.kept.1 g.1
accepted_break_none m a OwnWords.NoMemory ne h g = ne refl

-- The first tree of a file with a fault has one fault.
use Rattle.std.proofs.Common.{◌≡◌, ◌≢◌, ◌⊎◌, inl, inr, ℕ, ◌<◌, Err, refl, sym, ap, subst, ◌∙◌}
use Rattle.std.specs.Prelude.{slice_get}
use Rattle.std.proofs.lemmas.Bool.{cases_order}
use Rattle.std.proofs.lemmas.Option.{same_Some}
use Rattle.emp_ast.specs.declared.tree.Place.{Place}
use Rattle.emp_ast.specs.declared.tree.Tree.{Tree}
use Rattle.emp_ast.specs.declared.model.Equation.{Equation}
use Rattle.emp_ast.specs.declared.model.Model.{Model}
use Rattle.emp_ast.specs.Expression.{Expression}
use Rattle.emp_form.specs.Expansion.{expression_at, RootFits, HasDegree, DividesByVariable, DividesByZero}
use Rattle.emp_form.specs.Wide.{IsWide, IsFree}
use Rattle.emp_form.proofs.OneFault.{one_fault}
use Rattle.emp_poly.specs.declared.tree.PolyFault.{PolyFault}
use Rattle.emp_poly.specs.declared.tree.PolyFault.TheVariants.{Degree, DivideByVariable, DivideByZero, Wide, NoMemory}
use Rattle.emp_poly.specs.Trees.{IsFirst, FromTreeGives}
use Rattle.emp_subst.specs.Subst.{IsExpanded, IsFirstFault, PolyGives}

-- ---- one root
abbrev HasFault : PolyFault → Expression → Type 0
HasFault (Degree p) = HasDegree
HasFault (DivideByVariable p) = DividesByVariable
HasFault (DivideByZero p) = DividesByZero
HasFault (Wide p) = λ e. RootFits e × IsWide e
HasFault NoMemory = λ e. ⊥

no_place : Place
no_place = record { line = 1; column = 1 }

abbrev place_of : PolyFault → Place
place_of (Degree p) = p
place_of (DivideByVariable p) = p
place_of (DivideByZero p) = p
place_of (Wide p) = p
place_of NoMemory = no_place

not_free : (f : PolyFault) (e : Expression) → HasFault f e → IsFree e → ⊥
not_free (Degree p) e h free = (one_fault e).degree h free.0
not_free (DivideByVariable p) e h free = (one_fault e).by_variable h free.0
not_free (DivideByZero p) e h free = (one_fault e).by_zero h free.0
not_free (Wide p) e h free = free.1 h.1
not_free NoMemory e h free = h

same_fault : (f g : PolyFault) (e : Expression) → place_of f ≡ place_of g → HasFault f e → HasFault g e → f ≡ g
same_fault (Degree p) (Degree q) e s h k = ap Degree s
same_fault (Degree p) (DivideByVariable q) e s h k = absurd ((one_fault e).degree_or_variable h k)
same_fault (Degree p) (DivideByZero q) e s h k = absurd ((one_fault e).degree_or_zero h k)
same_fault (Degree p) (Wide q) e s h k = absurd ((one_fault e).degree h k.0)
same_fault (DivideByVariable p) (Degree q) e s h k = absurd ((one_fault e).degree_or_variable k h)
same_fault (DivideByVariable p) (DivideByVariable q) e s h k = ap DivideByVariable s
same_fault (DivideByVariable p) (DivideByZero q) e s h k = absurd ((one_fault e).variable_or_zero h k)
same_fault (DivideByVariable p) (Wide q) e s h k = absurd ((one_fault e).by_variable h k.0)
same_fault (DivideByZero p) (Degree q) e s h k = absurd ((one_fault e).degree_or_zero k h)
same_fault (DivideByZero p) (DivideByVariable q) e s h k = absurd ((one_fault e).variable_or_zero k h)
same_fault (DivideByZero p) (DivideByZero q) e s h k = ap DivideByZero s
same_fault (DivideByZero p) (Wide q) e s h k = absurd ((one_fault e).by_zero h k.0)
same_fault (Wide p) (Degree q) e s h k = absurd ((one_fault e).degree k h.0)
same_fault (Wide p) (DivideByVariable q) e s h k = absurd ((one_fault e).by_variable k h.0)
same_fault (Wide p) (DivideByZero q) e s h k = absurd ((one_fault e).by_zero k h.0)
same_fault (Wide p) (Wide q) e s h k = ap Wide s
same_fault NoMemory g e s h k = absurd h
same_fault f NoMemory e s h k = absurd k

-- ---- one tree
first_of : (t : Tree) (f : PolyFault) → f ≢ NoMemory → FromTreeGives t (Err f) → IsFirst t (place_of f) (HasFault f)
first_of t (Degree p) n h = h
first_of t (DivideByVariable p) n h = h
first_of t (DivideByZero p) n h = h
first_of t (Wide p) n h = h
first_of t NoMemory n h = absurd (n refl)

no_fault : (t : Tree) (f : PolyFault) → f ≢ NoMemory → IsExpanded t → FromTreeGives t (Err f) → ⊥
no_fault t f n e h = let x = first_of t f n h in not_free f (expression_at t.nodes x.at) x.fault (e.1.free x.at x.within)

one_tree : (t : Tree) (f g : PolyFault) → f ≢ NoMemory → g ≢ NoMemory → FromTreeGives t (Err f) → FromTreeGives t (Err g) → f ≡ g
one_tree t f g n o h k = go (first_of t f n h) (first_of t g o k)
  where
    go : IsFirst t (place_of f) (HasFault f) → IsFirst t (place_of g) (HasFault g) → f ≡ g
    go x y = by (cases_order x.at y.at)
      where
        by : (x.at ≡ y.at) ⊎ ((x.at < y.at) ⊎ (y.at < x.at)) → f ≡ g
        by (inl e) =
            same_fault f g (expression_at t.nodes y.at) (same_Some (place_of f) (place_of g) (sym x.stands ∙ (ap (slice_get t.places) e ∙ y.stands)))
            (subst (λ (i : ℕ). HasFault f (expression_at t.nodes i)) e x.fault) y.fault
        by (inr (inl l)) = absurd (not_free f (expression_at t.nodes x.at) x.fault (y.before x.at l))
        by (inr (inr l)) = absurd (not_free g (expression_at t.nodes y.at) y.fault (x.before y.at l))

-- ---- one equation
abbrev EquationFault : Equation → PolyFault → Type 0
EquationFault q f = FromTreeGives q.left (Err f) ⊎ (IsExpanded q.left × FromTreeGives q.right (Err f))

module _ (q : Equation) (f : PolyFault) (n : f ≢ NoMemory) where
  both_none : IsExpanded q.left × IsExpanded q.right → EquationFault q f → ⊥
  both_none b (inl h) = no_fault q.left f n b.0 h
  both_none b (inr h) = no_fault q.right f n b.1 h.1

  one_side : (g : PolyFault) → g ≢ NoMemory → EquationFault q f → EquationFault q g → f ≡ g
  one_side g o (inl h) (inl k) = one_tree q.left f g n o h k
  one_side g o (inl h) (inr k) = absurd (no_fault q.left f n k.0 h)
  one_side g o (inr h) (inl k) = absurd (no_fault q.left g o h.0 k)
  one_side g o (inr h) (inr k) = one_tree q.right f g n o h.1 k.1

-- ---- the file
firsts_same : (m : Model) (f g : PolyFault) → f ≢ NoMemory → g ≢ NoMemory → IsFirstFault m f → IsFirstFault m g → f ≡ g
firsts_same m f g n o x y = go (cases_order x.at y.at)
  where
    go : (x.at ≡ y.at) ⊎ ((x.at < y.at) ⊎ (y.at < x.at)) → f ≡ g
    go (inl e) =
        let same : x.equation ≡ y.equation = same_Some x.equation y.equation (sym x.is ∙ (ap (slice_get m.equations) e ∙ y.is)) in
        one_side y.equation f n g o (subst (λ (q : Equation). EquationFault q f) same x.fault) y.fault
    go (inr (inl l)) = absurd (both_none x.equation f n (y.before x.at x.equation l x.is) x.fault)
    go (inr (inr l)) = absurd (both_none y.equation g o (x.before y.at y.equation l y.is) y.fault)

pub poly_named : (m : Model) (f : PolyFault) → PolyGives m f → f ≢ NoMemory
poly_named m f h e = subst (PolyGives m) e h

first_fault : (m : Model) (f : PolyFault) → PolyGives m f → IsFirstFault m f
first_fault m (Degree p) h = h
first_fault m (DivideByVariable p) h = h
first_fault m (DivideByZero p) h = h
first_fault m (Wide p) h = h
first_fault m NoMemory h = absurd h

pub one_poly : (m : Model) (f g : PolyFault) → PolyGives m f → PolyGives m g → f ≡ g
one_poly m f g h k = firsts_same m f g (poly_named m f h) (poly_named m g k) (first_fault m f h) (first_fault m g k)

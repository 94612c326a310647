-- The differences so far, and the first quadratic coefficient of a polynomial.
use Rattle.std.proofs.Common.{◌≡◌, ◌≢◌, ◌⊎◌, inl, inr, ℕ, zero, suc, ◌+◌, ◌<◌, ◌≤◌, ℤ, pos, ◌*ℤ◌, ◌<ℤ◌, true, cond, List, [], ◌∷◌, ◌++◌, length, get_or, length-append, arith, refl, sym, ap, subst, ◌∙◌, Some}
use Rattle.std.specs.Prelude.{slice_get, Err}
use Rattle.std.proofs.lemmas.Bool.{false≢true}
use Rattle.std.proofs.lemmas.Option.{same_Some, slice_get_read}
use borrow.Author.Count.{below_more}
use lib.IntN.{zero-*ℤ}
use Rattle.emp_algebra.proofs.Ring.{var, lit, ◌⊗◌, by_ring}
use Rattle.emp_algebra.proofs.Order.{cancel_right}
use Rattle.emp_num.specs.FracSpec.{IsQuotient}
use Rattle.emp_num.specs.Whole.{whole}
use Rattle.emp_num.specs.declared.frac.Frac.{Frac}
use Rattle.emp_ast.specs.declared.tree.VarId.{VarId}
use Rattle.emp_ast.specs.declared.tree.Tree.{Tree}
use Rattle.emp_ast.specs.declared.model.Equation.{Equation}
use Rattle.emp_ast.specs.declared.model.Model.{Model}
use Rattle.emp_ast.specs.declared.annot.Annot.{Annot}
use Rattle.emp_form.specs.Form.{Form, IsLinear}
use Rattle.emp_form.specs.Expansion.{form}
use Rattle.emp_poly.specs.Terms.{is_not_zero, is_square_from, is_square}
use Rattle.emp_poly.specs.Quads.{square_at, HasForm}
use Rattle.emp_poly.specs.Trees.{IsExpansion, FromTreeGives}
use Rattle.emp_poly.specs.declared.quad.Quad.{Quad}
use Rattle.emp_poly.specs.declared.tree.PolyFault.{PolyFault}
use Rattle.emp_poly.specs.declared.tree.PolyFault.TheVariants.{Degree, DivideByVariable, DivideByZero, Wide, NoMemory}
use Rattle.emp_poly.proofs.QuadForms.{SquareFacts, square_facts, IsBefore, pair_apart, square_below, same_is}
use Rattle.emp_agents.specs.Given.{difference}
use Rattle.emp_problem.specs.Class.{is_affine}
use Rattle.emp_subst.specs.Subst.{IsExpanded, ExpandBefore, AllExpand, IsFirstFault, LinearBefore, AllLinear, IsFirstSquare, IsFirstQuadratic}
use Rattle.emp_subst.specs.Stages.{AreDifferences, DifferencesGive}

-- ---- the differences of the equations so far
abbrev pub HasFault : Equation → PolyFault → Type 0
HasFault q f = FromTreeGives q.left (Err f) ⊎ (IsExpanded q.left × FromTreeGives q.right (Err f))

-- the first n equations are expanded, and these are their differences
pub record SoFar (m : Model) (ds : List Quad) (n : ℕ) : Type 0 where
  pub expanded : ExpandBefore m n
  pub count : length ds ≡ n
  pub each : (e : ℕ) (q : Equation) (d : Quad) → slice_get m.equations e ≡ Some q → slice_get ds e ≡ Some d → HasForm d (form (difference q))

pub fault_of_right : (l r : Tree) (q : Quad) (f : PolyFault) → IsExpansion l q → FromTreeGives r (Err f) → FromTreeGives l (Err f) ⊎ (IsExpanded l × FromTreeGives r (Err f))
fault_of_right l r q f h k = inr ((q, h), k)

-- an equation with a fault after equations without
pub first_fault : (m : Model) (ds : List Quad) (at : ℕ) (q : Equation) (f : PolyFault) → at < length m.equations → q ≡ get_or m.equations at q → SoFar m ds at → HasFault q f → DifferencesGive m (Err f)
first_fault m ds at q f within is before fault = go f fault
  where
    here : slice_get m.equations at ≡ Some q
    here = slice_get_read m.equations (length m.equations) at q refl within is

    first : (f : PolyFault) → HasFault q f → IsFirstFault m f
    first f fault = record { at = at; equation = q; is = here; before = before.expanded; fault = fault }

    go : (f : PolyFault) → HasFault q f → DifferencesGive m (Err f)
    go (Degree p) h = first (Degree p) h
    go (DivideByVariable p) h = first (DivideByVariable p) h
    go (DivideByZero p) h = first (DivideByZero p) h
    go (Wide p) h = first (Wide p) h
    go NoMemory h = tt

each_pushed : {X : Type 0} (P : ℕ → X → Type 0) (xs : List X) (x : X) → ((k : ℕ) (y : X) → slice_get xs k ≡ Some y → P k y) → P (length xs) x → (k : ℕ) (y : X) → slice_get (xs ++ x ∷ []) k ≡ Some y → P k y
each_pushed P [] x each h zero y at = subst (λ z. P 0 z) (same_Some x y at) h
each_pushed P [] x each h (suc k) y at = cc
each_pushed P (z ∷ xs) x each h zero y at = each 0 y at
each_pushed P (z ∷ xs) x each h (suc k) y at = each_pushed (λ k y. P (suc k) y) xs x (λ k y at. each (suc k) y at) h k y at

pub so_far_more : (m : Model) (ds list : List Quad) (n : ℕ) (q : Equation) (d : Quad) → n < length m.equations → q ≡ get_or m.equations n q → SoFar m ds n → IsExpanded q.left × IsExpanded q.right × HasForm d (form (difference q)) → list ≡ ds ++ d ∷ [] → SoFar m list (n + 1)
so_far_more m ds list n q d within is before h pushed = subst (λ (ys : List Quad). SoFar m ys (n + 1)) (sym pushed) more
  where
    here : slice_get m.equations n ≡ Some q
    here = slice_get_read m.equations (length m.equations) n q refl within is

    next : (r : Equation) → slice_get m.equations (length ds) ≡ Some r → HasForm d (form (difference r))
    next r at =
        subst (λ (r : Equation). HasForm d (form (difference r))) (same_Some q r (sym here ∙ (ap (λ k. slice_get m.equations k) (sym before.count) ∙ at))) h.2

    more : SoFar m (ds ++ d ∷ []) (n + 1)
    more = record {
      expanded = λ e r l at.
          below_more (λ k. (r : Equation) → slice_get m.equations k ≡ Some r → IsExpanded r.left × IsExpanded r.right) n (λ k l r at. before.expanded k r l at)
          (λ r at. subst (λ (r : Equation). IsExpanded r.left × IsExpanded r.right) (same_Some q r (sym here ∙ at)) (h.0, h.1))
          e l r at;
      count = let c : length ds ≡ n = before.count in omega (arith, length-append ds (d ∷ []));
      each = λ e r y at got.
          each_pushed (λ k y. (r : Equation) → slice_get m.equations k ≡ Some r → HasForm y (form (difference r))) ds d (λ k y got r at. before.each k r y at got) next e y got r at;
    }

pub all_so_far : (m : Model) (ds : List Quad) (n : ℕ) → length m.equations ≤ n → n ≤ length m.equations → SoFar m ds n → AllExpand m × AreDifferences m ds
all_so_far m ds n l k before =
    let same : n ≡ length m.equations = omega arith in
    (subst (λ k. ExpandBefore m k) same before.expanded, record { count = before.count ∙ same; each = before.each })

-- ---- the first quadratic coefficient
zero_of : (z d : ℤ) → IsQuotient (whole 0) z d → z ≡ pos 0
zero_of z d h = by_ring (z ∷ []) (var 0) (var 0 ⊗ lit (pos 1)) refl ∙ (sym h ∙ zero-*ℤ d)

not_zero : (x : Frac) (z d : ℤ) → is_not_zero x.num ≡ true → pos 0 <ℤ d → IsQuotient x z d → z ≢ pos 0
not_zero x z d some above h e = contradiction x.num some top
  where
    top : x.num ≡ pos 0
    top = cancel_right x.num (pos 0) d (h ∙ (ap (λ y. y *ℤ x.den) e ∙ (zero-*ℤ x.den ∙ sym (zero-*ℤ d)))) above

    contradiction : (n : ℤ) → is_not_zero n ≡ true → n ≡ pos 0 → ⊥
    contradiction n some e = false≢true (subst (λ k. is_not_zero k ≡ true) e some)

-- no pair before the first term has a term
before_first : (t : VarId × VarId × Frac) (ts : List (VarId × VarId × Frac)) (i j : ℕ) → is_square_from t.0.at (t.1.at + 1) ts ≡ true → IsBefore i j t.0.at t.1.at → square_at (t ∷ ts) i j ≡ whole 0
before_first t ts i j rest l =
    ap (λ b. cond b t.2 (square_at ts i j)) (pair_apart t.0.at t.1.at i j (differs t.0.at t.1.at l)) ∙ square_below ts t.0.at (t.1.at + 1) i j rest (later t.0.at t.1.at l)
  where
    differs : (a b : ℕ) → IsBefore i j a b → a ≡ i → b ≡ j → ⊥
    differs a b (inl p) e g = omega arith
    differs a b (inr p) e g = omega (arith, p.1)

    later : (a b : ℕ) → IsBefore i j a b → IsBefore i j a (b + 1)
    later a b (inl p) = inl p
    later a b (inr p) = inr (p.0, omega (arith, p.1))

at_first : (t : VarId × VarId × Frac) (ts : List (VarId × VarId × Frac)) → square_at (t ∷ ts) t.0.at t.1.at ≡ t.2
at_first t ts = rw (same_is t.0.at, same_is t.1.at) refl

first_term : (t : VarId × VarId × Frac) (ts : List (VarId × VarId × Frac)) (f : Form) → is_square (t ∷ ts) ≡ true → pos 0 <ℤ f.den → ((i j : ℕ) → i ≤ j → IsQuotient (square_at (t ∷ ts) i j) (f.square i j) f.den) → IsFirstSquare f t.0.at t.1.at
first_term t ts f kept den has =
    let s : SquareFacts t ts 0 0 = square_facts t ts 0 0 kept in
    record {
      ordered = s.ordered;
      here = not_zero t.2 (f.square t.0.at t.1.at) f.den s.some den (subst (λ (x : Frac). IsQuotient x (f.square t.0.at t.1.at) f.den) (at_first t ts) (has t.0.at t.1.at s.ordered));
      before = λ i j l b. zero_of (f.square i j) f.den (subst (λ (x : Frac). IsQuotient x (f.square i j) f.den) (before_first t ts i j s.rest b) (has i j l));
    }

in_list : (ts : List (VarId × VarId × Frac)) (t : VarId × VarId × Frac) (f : Form) → is_square ts ≡ true → 0 < length ts → t ≡ get_or ts 0 t → pos 0 <ℤ f.den → ((i j : ℕ) → i ≤ j → IsQuotient (square_at ts i j) (f.square i j) f.den) → IsFirstSquare f t.0.at t.1.at
in_list [] t f kept some is den has = absurd (omega arith)
in_list (s ∷ ts) t f kept some is den has = subst (λ (t : VarId × VarId × Frac). IsFirstSquare f t.0.at t.1.at) (sym is) (first_term s ts f kept den has)

pub has_first : (q : Quad) (t : VarId × VarId × Frac) → 0 < length q.square → t ≡ get_or q.square 0 t → (f : Form) → HasForm q f → IsFirstSquare f t.0.at t.1.at
has_first q t some is f h = in_list q.square t f q.square_kept some is h.den h.square

-- ---- functions with a quadratic coefficient
pub linear_more : (m : Model) (a : Annot) (ds : List Quad) (n : ℕ) (d : Quad) → n < length ds → AreDifferences m ds → d ≡ get_or ds n d → LinearBefore m a n → (is_affine m a n ≡ true → (f : Form) → HasForm d f → IsLinear f) → LinearBefore m a (n + 1)
linear_more m a ds n d within are is before linear = λ e q l at f.
    below_more (λ k. (q : Equation) → slice_get m.equations k ≡ Some q → is_affine m a k ≡ true → IsLinear (form (difference q))) n (λ k l q at f. before k q l at f) here e l q at f
  where
    got : slice_get ds n ≡ Some d
    got = slice_get_read ds (length ds) n d refl within is

    here : (q : Equation) → slice_get m.equations n ≡ Some q → is_affine m a n ≡ true → IsLinear (form (difference q))
    here q at f = linear f (form (difference q)) (are.each n q d at got)

some_at : {X : Type 0} (xs : List X) (n : ℕ) → n < length xs → (x : X) × (slice_get xs n ≡ Some x)
some_at [] n l = absurd (omega arith)
some_at (x ∷ xs) zero l = (x, refl)
some_at (x ∷ xs) (suc n) l = some_at xs n (omega arith)

pub quadratic_here : (m : Model) (a : Annot) (ds : List Quad) (n : ℕ) (d : Quad) (u v : VarId) → n < length m.equations → AllExpand m → AreDifferences m ds → d ≡ get_or ds n d → LinearBefore m a n → is_affine m a n ≡ true → ((f : Form) → HasForm d f → IsFirstSquare f u.at v.at) → IsFirstQuadratic m a (record { at = n }) u v
quadratic_here m a ds n d u v within expanded are is before function square = go (some_at m.equations n within)
  where
    got : slice_get ds n ≡ Some d
    got = slice_get_read ds (length ds) n d refl (let c = are.count in omega arith) is

    go : (q : Equation) × (slice_get m.equations n ≡ Some q) → IsFirstQuadratic m a (record { at = n }) u v
    go q = record { expanded = expanded; equation = q.0; is = q.1; affine = function; before = before; square = square (form (difference q.0)) (are.each n q.0 d q.1 got) }

pub all_linear : (m : Model) (a : Annot) (n : ℕ) → length m.equations ≤ n → LinearBefore m a n → AllLinear m a
all_linear m a n l before = λ e q k at f. before e q (omega arith) at f

-- The polynomial of a tree has the tree's value.
use Rattle.std.proofs.Common.{◌≡◌, ℕ, zero, suc, ◌<◌, List, [], ◌∷◌, length, get_or, Some, Err, arith, sym, ap, subst}
use Rattle.std.specs.Prelude.{slice_get}
use Rattle.emp_num.specs.Point.{Point}
use Rattle.emp_ast.specs.declared.tree.Tree.{Tree}
use Rattle.emp_ast.specs.declared.tree.Place.{Place}
use Rattle.emp_ast.specs.Expression.{Expression, expression_of}
use Rattle.emp_form.specs.Form.{form_value}
use Rattle.emp_form.specs.Expansion.{form, RootFits, HasDegree, DividesByVariable, DividesByZero, expression_at}
use Rattle.emp_form.specs.Wide.{IsWide}
use Rattle.emp_form.proofs.FormLaws.{values_are_forms}
use Rattle.emp_expand.specs.Expanding.{HasFault, Expands, Stops}
use Rattle.emp_expand.specs.declared.expand.ExpandFault.{ExpandFault}
use Rattle.emp_expand.specs.declared.products.NodeFault.{NodeFault}
use Rattle.emp_expand.specs.declared.products.NodeFault.TheVariants as Node
use Rattle.emp_expand.specs.declared.coefficients.Coefficients.{Coefficients}
use Rattle.emp_poly.specs.Quads.{quad_value}
use Rattle.emp_poly.specs.Parts.{Collects}
use Rattle.emp_poly.specs.Trees.{IsFirst, IsExpansion, FromTreeGives, HasTreeValue, IsFaultAt}
use Rattle.emp_poly.specs.declared.tree.PolyFault.{PolyFault}
use Rattle.emp_poly.specs.declared.quad.Quad.{Quad}
use Rattle.emp_poly.proofs.Gatherings.{loosely}
use Rattle.emp_poly.proofs.QuadForms.{quad_is_form, ratio_trans, form_bottom}

pub expansion : (t : Tree) (c : Coefficients) (q : Quad) → Expands t.nodes c → Collects c q → IsExpansion t q
expansion t c q e k =
    let f = form (expression_of t.nodes) in
    record { free = e.free; polynomial = e.polynomial; coefficients = k.form f (loosely c f e.stands); small = k.small f e.stands }

pub tree_value_is : (t : Tree) (q : Quad) (p : Point) → IsExpansion t q → HasTreeValue t q p
tree_value_is t q p e =
    let f = form (expression_of t.nodes) in
    let v = values_are_forms p (expression_of t.nodes) e.polynomial in
    record {
      number = v.number;
      is = v.is;
      same = ratio_trans v.number (form_value p f) (quad_value p q) (form_bottom p f e.coefficients.den) v.same (sym (quad_is_form p q f e.coefficients));
    }

-- ---- the fault of a node at its place
place_at : {A : Type 0} (xs : List A) (k : ℕ) (x : A) → k < length xs → x ≡ get_or xs k x → slice_get xs k ≡ Some x
place_at [] k x h e = absurd (omega arith)
place_at (y ∷ xs) zero x h e = ap (λ y. Some y) (sym e)
place_at (y ∷ xs) (suc k) x h e = place_at xs k x (omega arith) e

first_at : (t : Tree) (s : ExpandFault) (x : Place) (Has : Expression → Type 0) → Stops t.nodes s → x ≡ get_or t.places s.at x → Has (expression_at t.nodes s.at) → IsFirst t x Has
first_at t s x Has h e fault = record {
  at = s.at;
  within = h.within;
  before = h.before;
  fault = fault;
  stands = place_at t.places s.at x (subst (λ n. s.at < n) (sym t.placed) h.within) e;
}

pub fault_is : (t : Tree) (s : ExpandFault) (x : Place) (f : PolyFault) → Stops t.nodes s → x ≡ get_or t.places s.at x → IsFaultAt s.fault x f → FromTreeGives t (Err f)
fault_is t s x f h e g = go s.fault g h.fault
  where
    go : (n : NodeFault) → IsFaultAt n x f → HasFault (expression_at t.nodes s.at) n → FromTreeGives t (Err f)
    go Node.NoMemory g c = subst (λ f. FromTreeGives t (Err f)) (sym g) tt
    go Node.Degree g c = subst (λ f. FromTreeGives t (Err f)) (sym g) (first_at t s x HasDegree h e c)
    go Node.DivideByVariable g c = subst (λ f. FromTreeGives t (Err f)) (sym g) (first_at t s x DividesByVariable h e c)
    go Node.DivideByZero g c = subst (λ f. FromTreeGives t (Err f)) (sym g) (first_at t s x DividesByZero h e c)
    go Node.Wide g c = subst (λ f. FromTreeGives t (Err f)) (sym g) (first_at t s x (λ e. RootFits e × IsWide e) h e c)

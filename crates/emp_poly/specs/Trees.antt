-- What the expansion of a tree gives: each outcome with what is so exactly there.
use Rattle.std.specs.Prelude.{◌≡◌, ℕ, ◌<◌, length, Some, slice_get, Result, Ok, Err}
use Rattle.emp_num.specs.Ratio.{Ratio, SameRatio}
use Rattle.emp_num.specs.Point.{Point}
use Rattle.emp_ast.specs.declared.tree.Place.{Place}
use Rattle.emp_ast.specs.declared.tree.Tree.{Tree}
use Rattle.emp_ast.specs.Expression.{Expression, expression_of}
use Rattle.emp_ast.specs.Value.{tree_value}
use Rattle.emp_form.specs.Expansion.{form, RootFits, IsPolynomial, HasDegree, DividesByVariable, DividesByZero, expression_at}
use Rattle.emp_form.specs.Wide.{IsWide}
use Rattle.emp_expand.specs.Expanding.{AllFree}
use Rattle.emp_expand.specs.declared.products.NodeFault.{NodeFault}
use Rattle.emp_expand.specs.declared.products.NodeFault.TheVariants as Node
use Rattle.emp_poly.specs.Quads.{quad_value, HasForm, IsSmallQuad}
use Rattle.emp_poly.specs.declared.quad.Quad.{Quad}
use Rattle.emp_poly.specs.declared.tree.PolyFault.{PolyFault}
use Rattle.emp_poly.specs.declared.tree.PolyFault.TheVariants.{Degree, DivideByVariable, DivideByZero, Wide, NoMemory}

-- the node at the place has the fault, and none before it has one
pub record IsFirst (t : Tree) (place : Place) (HasFault : Expression → Type 0) : Type 0 where
  pub at : ℕ
  pub within : at < length t.nodes
  pub before : AllFree t.nodes at
  pub fault : HasFault (expression_at t.nodes at)
  pub stands : slice_get t.places at ≡ Some place

-- no node has a fault, and the coefficients are those of the tree's expression, expanded without bound
pub record IsExpansion (t : Tree) (q : Quad) : Type 0 where
  pub free : AllFree t.nodes (length t.nodes)
  pub polynomial : IsPolynomial (expression_of t.nodes)
  pub coefficients : HasForm q (form (expression_of t.nodes))
  pub small : IsSmallQuad q

abbrev pub FromTreeGives : Tree → Result Quad PolyFault → Type 0
FromTreeGives t (Ok q) = IsExpansion t q
FromTreeGives t (Err (Degree place)) = IsFirst t place HasDegree
FromTreeGives t (Err (DivideByVariable place)) = IsFirst t place DividesByVariable
FromTreeGives t (Err (DivideByZero place)) = IsFirst t place DividesByZero
FromTreeGives t (Err (Wide place)) = IsFirst t place (λ e. RootFits e × IsWide e)
FromTreeGives t (Err NoMemory) = Unit {0}

-- the tree has a value at the point, which is the polynomial's
pub record HasTreeValue (t : Tree) (q : Quad) (p : Point) : Type 0 where
  pub number : Ratio
  pub is : tree_value p t ≡ Some number
  pub same : SameRatio number (quad_value p q)

abbrev pub IsFaultAt : NodeFault → Place → PolyFault → Type 0
IsFaultAt Node.NoMemory place f = f ≡ NoMemory
IsFaultAt Node.Degree place f = f ≡ Degree place
IsFaultAt Node.DivideByVariable place f = f ≡ DivideByVariable place
IsFaultAt Node.DivideByZero place f = f ≡ DivideByZero place
IsFaultAt Node.Wide place f = f ≡ Wide place

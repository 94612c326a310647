-- Trees made of nodes and places. This serves the proofs of readers and printers; no meaning cites it.
use Rattle.std.specs.Prelude.{◌≡◌, ℕ, Bool, true, false, nat_eq, List, [], ◌∷◌, length, Option, Some, None, refl}
use Rattle.std.proofs.lemmas.Bool.{eqb-true}
use Rattle.emp_ast.specs.declared.tree.Place.{Place}
use Rattle.emp_ast.specs.declared.tree.Node.{Node}
use Rattle.emp_ast.specs.declared.tree.Tree.{Tree}
use Rattle.emp_ast.specs.Expression.{is_postorder}

abbrev pub tree_by : (nodes : List Node) (places : List Place) (b c : Bool) → is_postorder nodes ≡ b → nat_eq (length places) (length nodes) ≡ c → Option Tree
tree_by nodes places true true p q = Some (record { nodes = nodes; places = places; whole = p; placed = eqb-true _ _ q })
tree_by nodes places true false p q = None
tree_by nodes places false c p q = None

-- the tree of these nodes and places, where the nodes are in postorder and each has its place
abbrev pub tree_from : List Node → List Place → Option Tree
tree_from nodes places = tree_by nodes places (is_postorder nodes) (nat_eq (length places) (length nodes)) refl refl

-- ---- roots that are taken
abbrev pub is_last : ℕ → List ℕ → Bool
is_last operand [] = false
is_last operand (r ∷ roots) = nat_eq operand r

abbrev pub but_last : List ℕ → List ℕ
but_last [] = []
but_last (r ∷ roots) = roots

-- the operands are the last roots, and these are left
abbrev pub Settles : List ℕ × Bool → List ℕ → Bool → Type 0
Settles q roots true = q ≡ (roots, true)
Settles q roots false = q.1 ≡ false

-- Lists of nodes that are trees in preorder, and the ranges of a node's numbers.
use Rattle.std.specs.Prelude.{ℕ, zero, suc, List, [], ◌∷◌}
use Rattle.std.specs.Coded.{Unit-prop}
use Rattle.emp_cert.specs.declared.tree.Node.{Node}
use Rattle.emp_cert.specs.declared.tree.Node.TheVariants.{Branch, Farkas, Bound}

-- the nodes are n whole trees, one after another
abbrev pub AreTrees : ℕ → List Node → Type 0
AreTrees zero [] = Unit {0}
AreTrees zero (x ∷ ns) = ⊥
AreTrees (suc n) [] = ⊥
AreTrees (suc n) (Branch k ∷ ns) = AreTrees (suc (suc n)) ns
AreTrees (suc n) (Farkas fs ∷ ns) = AreTrees n ns
AreTrees (suc n) (Bound w fs ∷ ns) = AreTrees n ns

-- there is one proof of it at most
pub AreTrees-prop : (n : ℕ) (ns : List Node) → IsProp (AreTrees n ns)
AreTrees-prop zero [] = Unit-prop
AreTrees-prop zero (x ∷ ns) = λ a b. absurd a
AreTrees-prop (suc n) [] = λ a b. absurd a
AreTrees-prop (suc n) (Branch k ∷ ns) = AreTrees-prop (suc (suc n)) ns
AreTrees-prop (suc n) (Farkas fs ∷ ns) = AreTrees-prop n ns
AreTrees-prop (suc n) (Bound w fs ∷ ns) = AreTrees-prop n ns

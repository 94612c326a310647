-- Lists of nodes and trees.
use Rattle.std.proofs.Common.{◌≡◌, ℕ, zero, suc, List, [], ◌∷◌, ◌++◌, length, append_assoc, arith, refl, sym, ap, ◌∙◌, subst}
use Rattle.std.proofs.lemmas.List.{append-nil}
use Rattle.emp_cert.specs.declared.tree.Node.{Node}
use Rattle.emp_cert.specs.declared.tree.Node.TheVariants.{Branch, Farkas, Bound}
use Rattle.emp_cert.specs.Deciders.{NodeTree, split, refutes, bounds, preorder}
use Rattle.emp_cert.specs.Nodes.{AreTrees}

abbrev preorders : List NodeTree → List Node
preorders [] = []
preorders (t ∷ ts) = preorder t ++ preorders ts

record Forest (n : ℕ) (ns : List Node) : Type 0 where
  trees : List NodeTree
  count : length trees ≡ n
  are : preorders trees ≡ ns

-- the first two trees under one branch
joined : (k n : ℕ) (ns : List Node) (ts : List NodeTree) → length ts ≡ suc (suc n) → preorders ts ≡ ns → Forest (suc n) (Branch k ∷ ns)
joined k n ns [] e h = absurd (omega arith)
joined k n ns (a ∷ []) e h = absurd (omega arith)
joined k n ns (a ∷ b ∷ ts) e h = record {
  trees = split k a b ∷ ts;
  count = omega arith;
  are = ap (λ (xs : List Node). Branch k ∷ xs) (append_assoc (preorder a) (preorder b) (preorders ts) ∙ h);
}

forest : (n : ℕ) (ns : List Node) → AreTrees n ns → Forest n ns
forest zero [] h = record { trees = []; count = refl; are = refl }
forest zero (x ∷ ns) h = absurd h
forest (suc n) [] h = absurd h
forest (suc n) (Branch k ∷ ns) h = let f = forest (suc (suc n)) ns h in joined k n ns f.trees f.count f.are
forest (suc n) (Farkas fs ∷ ns) h =
    let f = forest n ns h in
    record { trees = refutes fs ∷ f.trees; count = ap suc f.count; are = ap (λ (xs : List Node). Farkas fs ∷ xs) f.are }
forest (suc n) (Bound w fs ∷ ns) h =
    let f = forest n ns h in
    record { trees = bounds w fs ∷ f.trees; count = ap suc f.count; are = ap (λ (xs : List Node). Bound w fs ∷ xs) f.are }

only : (ns : List Node) (ts : List NodeTree) → length ts ≡ 1 → preorders ts ≡ ns → (t : NodeTree) × (preorder t ≡ ns)
only ns [] e h = absurd (omega arith)
only ns (t ∷ []) e h = (t, sym (append-nil (preorder t)) ∙ h)
only ns (t ∷ u ∷ ts) e h = absurd (omega arith)

pub some_tree : (ns : List Node) → AreTrees 1 ns → (t : NodeTree) × (preorder t ≡ ns)
some_tree ns h = let f = forest 1 ns h in only ns f.trees f.count f.are

trees_more : (t : NodeTree) (n : ℕ) (ns : List Node) → AreTrees n ns → AreTrees (suc n) (preorder t ++ ns)
trees_more (refutes fs) n ns h = h
trees_more (bounds w fs) n ns h = h
trees_more (split k a b) n ns h = subst (λ (xs : List Node). AreTrees (suc (suc n)) xs) (sym (append_assoc (preorder a) (preorder b) ns)) (trees_more a (suc n) (preorder b ++ ns) (trees_more b n ns h))

pub whole_tree : (t : NodeTree) → AreTrees 1 (preorder t)
whole_tree t = subst (λ (xs : List Node). AreTrees 1 xs) (append-nil (preorder t)) (trees_more t 0 [] tt)

-- Trees by their nodes and places.
use Rattle.std.proofs.Common.{◌≡◌, ℕ, ◌+◌, ◌<◌, ◌≤◌, Bool, true, false, ◌&&◌, List, [], ◌∷◌, ◌++◌, length, reverse, drop, get_or, Some, None, refl, sym, ap, subst, subst₂, ◌∙◌, arith, length-append}
use Rattle.std.specs.Prelude.{nat_eq}
use Rattle.std.proofs.lemmas.Bool.{eq-eqb, false≢true}
use Rattle.std.proofs.Math.Bool.{Bool-set}
use Rattle.std.proofs.Math.Nat.{ℕ_set}
use Rattle.std.proofs.lemmas.List.{reverse-append, length-reverse, drop_more, drop_all}
use Rattle.emp_ast.specs.declared.tree.Place.{Place}
use Rattle.emp_ast.specs.declared.tree.Node.{Node}
use Rattle.emp_ast.specs.declared.tree.Node.TheVariants.{Neg, Power}
use Rattle.emp_ast.specs.declared.tree.Tree.{Tree}
use Rattle.emp_ast.specs.Expression.{Expression, number, variable, negated, joined, power, pops, operands, has_one, is_postorder_from, is_postorder}
use Rattle.emp_ast.specs.Nodes.{size, root, nodes_from, join_node}
use Rattle.emp_ast.specs.Trees.{tree_by, tree_from, is_last, but_last, Settles}

-- trees with the same nodes and places are one
pub tree_eq : (s t : Tree) → s.nodes ≡ t.nodes → s.places ≡ t.places → s ≡ t
tree_eq s t p q = subst₂ Same p q base t.whole t.placed
  where
    Same : List Node → List Place → Type 0
    Same ns ps = (w : is_postorder ns ≡ true) (l : length ps ≡ length ns) → s ≡ record { nodes = ns; places = ps; whole = w; placed = l }

    base : Same s.nodes s.places
    base w l = λ i. record { nodes = s.nodes; places = s.places; whole = Bool-set (is_postorder s.nodes) true s.whole w i; placed = ℕ_set (length s.places) (length s.nodes) s.placed l i }

pub tree_from_is : (t : Tree) → tree_from t.nodes t.places ≡ Some t
tree_from_is t = go (is_postorder t.nodes) (nat_eq (length t.places) (length t.nodes)) refl refl t.whole (eq-eqb _ _ t.placed)
  where
    go : (b c : Bool) (p : is_postorder t.nodes ≡ b) (q : nat_eq (length t.places) (length t.nodes) ≡ c) → b ≡ true → c ≡ true → tree_by t.nodes t.places b c p q ≡ Some t
    go true true p q g h = ap Some (tree_eq _ t refl refl)
    go true false p q g h = absurd (false≢true h)
    go false c p q g h = absurd (false≢true g)

-- no tree where the nodes are not in postorder
pub no_order : (ns : List Node) (ps : List Place) → is_postorder ns ≡ false → tree_from ns ps ≡ None
no_order ns ps e = go (is_postorder ns) (nat_eq (length ps) (length ns)) refl refl e
  where
    go : (b c : Bool) (p : is_postorder ns ≡ b) (q : nat_eq (length ps) (length ns) ≡ c) → b ≡ false → tree_by ns ps b c p q ≡ None
    go true c p q g = absurd (false≢true (sym g))
    go false c p q g = refl

-- ---- the roots of nodes
pub reverse_push : {X : Type 0} (xs : List X) (x : X) → reverse (xs ++ x ∷ []) ≡ x ∷ reverse xs
reverse_push xs x = reverse-append xs (x ∷ [])

pub ruleset stacking = (reverse_push)

pub settles_none : (at : ℕ) (roots : List ℕ) → pops [] at roots ≡ (at ∷ roots, true)
settles_none at [] = refl
settles_none at (r ∷ roots) = refl

pub settles_first : (b : ℕ) (ops : List ℕ) (at : ℕ) (old mid new : List ℕ) (f : Bool) → is_last b old ≡ true → mid ≡ but_last old → Settles (pops ops at mid) new f → Settles (pops (b ∷ ops) at old) new f
settles_first b ops at [] mid new f e m h = absurd (false≢true e)
settles_first b ops at (r ∷ roots) mid new true e m h = ap (λ c. ((pops ops at roots).0, c && (pops ops at roots).1)) e ∙ subst (λ z. pops ops at z ≡ (new, true)) m h
settles_first b ops at (r ∷ roots) mid new false e m h = ap (λ c. c && (pops ops at roots).1) e ∙ subst (λ z. (pops ops at z).1 ≡ false) m h

pub settles_not : (b : ℕ) (ops : List ℕ) (at : ℕ) (old new : List ℕ) → is_last b old ≡ false → Settles (pops (b ∷ ops) at old) new false
settles_not b ops at [] new e = refl
settles_not b ops at (r ∷ roots) new e = ap (λ c. c && (pops ops at roots).1) e

pub ruleset settling = (settles_none, settles_first, settles_not)

-- ---- from node to node
node_here : (old : List ℕ) (at : ℕ) (ns : List Node) (n : Node) → at < length ns → n ≡ get_or ns at n → is_postorder_from old at (drop at ns) ≡ (pops (operands n) at old).1 && is_postorder_from (pops (operands n) at old).0 (at + 1) (drop (at + 1) ns)
node_here old at ns n h e = ap (is_postorder_from old at) (drop_more ns at n h ∙ ap (λ x. x ∷ drop (at + 1) ns) (sym e))

pub walk_on : (old new : List ℕ) (at : ℕ) (ns : List Node) (n : Node) → at < length ns → n ≡ get_or ns at n → Settles (pops (operands n) at old) (at ∷ new) true → is_postorder_from old at (drop at ns) ≡ is_postorder_from (at ∷ new) (at + 1) (drop (at + 1) ns)
walk_on old new at ns n h e s = node_here old at ns n h e ∙ ap (λ q. q.1 && is_postorder_from q.0 (at + 1) (drop (at + 1) ns)) s

pub walk_not : (old new : List ℕ) (at : ℕ) (ns : List Node) (n : Node) → at < length ns → n ≡ get_or ns at n → Settles (pops (operands n) at old) (at ∷ new) false → is_postorder_from old at (drop at ns) ≡ false
walk_not old new at ns n h e s = node_here old at ns n h e ∙ ap (λ b. b && is_postorder_from (pops (operands n) at old).0 (at + 1) (drop (at + 1) ns)) s

pub walk_end : (roots : List ℕ) (at : ℕ) (ns : List Node) → length ns ≤ at → is_postorder_from roots at (drop at ns) ≡ has_one roots
walk_end roots at ns h = ap (is_postorder_from roots at) (drop_all at ns h)

one_by_length : (xs : List ℕ) → has_one xs ≡ nat_eq (length xs) 1
one_by_length [] = refl
one_by_length (x ∷ []) = refl
one_by_length (x ∷ y ∷ xs) = grind arith

pub one_left : (xs : List ℕ) → has_one (reverse xs) ≡ nat_eq (length xs) 1
one_left xs = one_by_length (reverse xs) ∙ ap (λ n. nat_eq n 1) (length-reverse xs)

pub ruleset walking = (reverse_push, walk_on, walk_end, one_left)

-- ---- how many nodes an expression has
pub length_nodes : (e : Expression) (n : ℕ) → length (nodes_from n e) ≡ size e
length_nodes (number f) n = refl
length_nodes (variable k) n = refl
length_nodes (negated e) n = length-append (nodes_from n e) (Neg (root n e) ∷ []) ∙ ap (λ k. k + 1) (length_nodes e n)
length_nodes (joined op e f) n =
    length-append (nodes_from n e ++ nodes_from (n + size e) f) (join_node op (root n e) (root (n + size e) f) ∷ [])
    ∙ ap (λ k. k + 1) (length-append (nodes_from n e) (nodes_from (n + size e) f))
    ∙ ap (λ k. k + length (nodes_from (n + size e) f) + 1) (length_nodes e n)
    ∙ ap (λ k. size e + k + 1) (length_nodes f (n + size e))
length_nodes (power e k) n = length-append (nodes_from n e) (Power (root n e) k ∷ []) ∙ ap (λ j. j + 1) (length_nodes e n)

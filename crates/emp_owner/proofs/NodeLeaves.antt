-- Leaves and summands, told from nodes.
use Rattle.std.proofs.Common.{◌≡◌, ◌⊎◌, inl, inr, ℕ, ◌+◌, ◌<◌, ◌≤◌, min, Bool, cond, List, [], ◌∷◌, ◌++◌, map, reverse, length, take, get_or, set, arith, refl, sym, ap, ap₂, ◌∙◌, ◌≢◌, append-nil}
use Rattle.std.specs.List.{fold}
use Rattle.std.proofs.lemmas.Bool.{eq-eqb, ne_eqb, cases_eq}
use Rattle.std.proofs.lemmas.List.{reverse-append, reverse-reverse, take_more, take_all, get_or-set_same, get_or-set_other, length-set}
use Rattle.std.proofs.lemmas.List.Sums.{sum_by-append}
use Rattle.emp_ast.specs.declared.tree.VarId.{VarId}
use Rattle.emp_ast.specs.declared.tree.Operator.{Operator}
use Rattle.emp_ast.specs.declared.tree.Operator.TheVariants.{Plus, Minus, Times, Over}
use Rattle.emp_ast.specs.declared.tree.Node.{Node}
use Rattle.emp_ast.specs.declared.tree.Node.TheVariants.{Number, Var, Neg, Add, Sub, Mul, Div, Power}
use Rattle.emp_ast.specs.declared.tree.Tree.{Tree}
use Rattle.emp_ast.specs.declared.model.Equation.{Equation}
use Rattle.emp_ast.specs.Expression.{Expression, number, variable, negated, joined, power, expression_of, expressions_from, takes, alters}
use Rattle.emp_ast.specs.Occurrence.{leaves, equation_leaves, occurrences, is_summand}
use Rattle.emp_ast.specs.Nodes.{size, root, join_node, nodes_from}
use Rattle.emp_ast.proofs.Nodes.{nodes_of, reads_as}
use Rattle.emp_owner.specs.NodeLeaves.{is_leaf, node_leaves, HasCounted, AreCounts, node_flags, all_flags}

-- ---- leaves
join_leaf : (w : ℕ) (op : Operator) (a b : ℕ) → node_leaves w (join_node op a b ∷ []) ≡ 0
join_leaf w Plus a b = refl
join_leaf w Minus a b = refl
join_leaf w Times a b = refl
join_leaf w Over a b = refl

joined_leaves : (w : ℕ) (xs ys : List Node) → node_leaves w (xs ++ ys) ≡ node_leaves w xs + node_leaves w ys
joined_leaves w xs ys = sum_by-append (λ n. cond (is_leaf w n) 1 0) xs ys

nodes_leaves : (w : ℕ) (e : Expression) (before : ℕ) → node_leaves w (nodes_from before e) ≡ leaves w e
nodes_leaves w (number f) before = refl
nodes_leaves w (variable k) before = omega arith
nodes_leaves w (negated e) before = joined_leaves w (nodes_from before e) (Neg (root before e) ∷ []) ∙ (ap (λ n. n + 0) (nodes_leaves w e before) ∙ omega arith)
nodes_leaves w (joined op e f) before =
    let n = join_node op (root before e) (root (before + size e) f) in
    joined_leaves w (nodes_from before e ++ nodes_from (before + size e) f) (n ∷ [])
    ∙ (ap₂ (λ i j. i + j) (joined_leaves w (nodes_from before e) (nodes_from (before + size e) f) ∙ ap₂ (λ i j. i + j) (nodes_leaves w e before) (nodes_leaves w f (before + size e))) (join_leaf w op (root before e) (root (before + size e) f)) ∙ omega arith)
nodes_leaves w (power e k) before = joined_leaves w (nodes_from before e) (Power (root before e) k ∷ []) ∙ (ap (λ n. n + 0) (nodes_leaves w e before) ∙ omega arith)

pub tree_leaves : (w : ℕ) (t : Tree) → node_leaves w t.nodes ≡ leaves w (expression_of t.nodes)
tree_leaves w t = ap (node_leaves w) (nodes_of t.nodes t.whole) ∙ nodes_leaves w (expression_of t.nodes) 0

-- ---- counts
pub counted_none : (xs : List ℕ) (f : ℕ → ℕ) → ((v : ℕ) → f v ≡ 0) → HasCounted xs xs f
counted_none xs f none = record { count = refl; more = λ v h. let e = none v in omega arith }

pub counted_on : (xs ys zs : List ℕ) (f g h : ℕ → ℕ) → HasCounted xs ys f → HasCounted ys zs g → ((v : ℕ) → h v ≡ f v + g v) → HasCounted xs zs h
counted_on xs ys zs f g h a b e = record {
  count = b.count ∙ a.count;
  more = λ v l. let one = a.more v l in let two = b.more v (omega (arith, a.count)) in let sum = e v in omega arith;
}

pub counted_as : (xs ys : List ℕ) (f g : ℕ → ℕ) → HasCounted xs ys f → ((v : ℕ) → g v ≡ f v) → HasCounted xs ys g
counted_as xs ys f g a e = record { count = a.count; more = λ v l. let one = a.more v l in let same = e v in omega arith }

-- one leaf more
pub counted_leaf : (xs : List ℕ) (v : VarId) (n : ℕ) → v.at < length xs → n ≡ min (get_or xs v.at 0 + 1) 2 → HasCounted xs (set xs v.at n) (λ w. node_leaves w (Var v ∷ []))
counted_leaf xs v n l is = record { count = length-set xs v.at n; more = λ w k. go w (cases_eq w v.at) }
  where
    go : (w : ℕ) → (w ≡ v.at) ⊎ (w ≢ v.at) → min (get_or (set xs v.at n) w 0) 2 ≡ min (get_or xs w 0 + node_leaves w (Var v ∷ [])) 2
    go w (inl e) =
        let there : get_or (set xs v.at n) w 0 ≡ n = ap (λ k. get_or (set xs v.at n) k 0) e ∙ get_or-set_same xs v.at n 0 l in
        let one : node_leaves w (Var v ∷ []) ≡ 1 = ap (λ b. 0 + cond b 1 0) (eq-eqb v.at w (sym e)) in
        let old : get_or xs w 0 ≡ get_or xs v.at 0 = ap (λ k. get_or xs k 0) e in
        omega arith
    go w (inr e) =
        let there : get_or (set xs v.at n) w 0 ≡ get_or xs w 0 = get_or-set_other xs v.at w n 0 e in
        let none : node_leaves w (Var v ∷ []) ≡ 0 = ap (λ b. 0 + cond b 1 0) (ne_eqb v.at w (λ h. e (sym h))) in
        omega arith

pub counted_past : (xs : List ℕ) (v : VarId) → length xs ≤ v.at → HasCounted xs xs (λ w. node_leaves w (Var v ∷ []))
counted_past xs v l = record { count = refl; more = λ w k. let none : node_leaves w (Var v ∷ []) ≡ 0 = ap (λ b. 0 + cond b 1 0) (ne_eqb v.at w (λ h. omega arith)) in omega arith }

-- one equation more
occurrences_append : (w : ℕ) (es : List Equation) (e : Equation) → occurrences w (es ++ e ∷ []) ≡ occurrences w es + equation_leaves w e
occurrences_append w [] e = omega arith
occurrences_append w (f ∷ es) e = let l = occurrences_append w es e in omega arith

pub counts_more : (n : ℕ) (es : List Equation) (i : ℕ) (e : Equation) (old new : List ℕ) → i < length es → e ≡ get_or es i e → AreCounts n (take i es) old → HasCounted old new (λ v. equation_leaves v e) → AreCounts n (take (i + 1) es) new
counts_more n es i e old new l is a h = record {
  count = h.count ∙ a.count;
  leaves = λ v k.
      let more : occurrences v (take (i + 1) es) ≡ occurrences v (take i es) + equation_leaves v e = ap (occurrences v) (take_more es i e l ∙ ap (λ f. take i es ++ f ∷ []) (sym is)) ∙ occurrences_append v (take i es) e in
      let one = a.leaves v k in
      let two = h.more v (omega (arith, a.count)) in
      omega arith;
}

-- ---- flags
alters_flags : (w : ℕ) (f : Expression → Expression) (es : List Expression) → ((e : Expression) → is_summand w (f e) ≡ is_summand w e) → map (is_summand w) (alters f es) ≡ map (is_summand w) es
alters_flags w f [] same = refl
alters_flags w f (e ∷ es) same = ap (λ b. b ∷ map (is_summand w) es) (same e)

takes_flags : (w : ℕ) (n : Node) (es : List Expression) → map (is_summand w) (takes n es) ≡ node_flags w (map (is_summand w) es) n
takes_flags w (Number f) es = refl
takes_flags w (Var v) es = refl
takes_flags w (Neg a) es = alters_flags w negated es (λ e. refl)
takes_flags w (Add a b) [] = refl
takes_flags w (Add a b) (e ∷ []) = refl
takes_flags w (Add a b) (f ∷ (e ∷ es)) = refl
takes_flags w (Sub a b) [] = refl
takes_flags w (Sub a b) (e ∷ []) = refl
takes_flags w (Sub a b) (f ∷ (e ∷ es)) = refl
takes_flags w (Mul a b) [] = refl
takes_flags w (Mul a b) (e ∷ []) = refl
takes_flags w (Mul a b) (f ∷ (e ∷ es)) = refl
takes_flags w (Div a b) [] = refl
takes_flags w (Div a b) (e ∷ []) = refl
takes_flags w (Div a b) (f ∷ (e ∷ es)) = refl
takes_flags w (Power a n) [] = refl
takes_flags w (Power a n) (e ∷ es) = refl

flags_from : (w : ℕ) (ns : List Node) (es : List Expression) → map (is_summand w) (expressions_from es ns) ≡ fold (node_flags w) (map (is_summand w) es) ns
flags_from w [] es = refl
flags_from w (n ∷ ns) es = flags_from w ns (takes n es) ∙ ap (λ s. fold (node_flags w) s ns) (takes_flags w n es)

-- at the end there is the tree's own flag
pub tree_flags : (w : ℕ) (t : Tree) → all_flags w t.nodes ≡ is_summand w (expression_of t.nodes) ∷ []
tree_flags w t =
    let e = expression_of t.nodes in
    let one : expressions_from [] t.nodes ≡ e ∷ [] = ap (expressions_from []) (nodes_of t.nodes t.whole ∙ sym (append-nil (nodes_from 0 e))) ∙ reads_as e 0 [] [] in
    sym (flags_from w t.nodes []) ∙ ap (map (is_summand w)) one

pub reverse_push : {X : Type 0} (xs : List X) (x : X) → reverse (xs ++ x ∷ []) ≡ x ∷ reverse xs
reverse_push xs x = reverse-append xs (x ∷ [])

one_reversed : {X : Type 0} (xs : List X) (x : X) → reverse xs ≡ x ∷ [] → xs ≡ x ∷ []
one_reversed xs x e = sym (reverse-reverse xs) ∙ ap reverse e

pub end_flags : (w : ℕ) (t : Tree) (i : ℕ) (items : List Bool) → length t.nodes ≤ i → reverse items ≡ all_flags w (take i t.nodes) → items ≡ is_summand w (expression_of t.nodes) ∷ []
end_flags w t i items h e = one_reversed items (is_summand w (expression_of t.nodes)) (e ∙ (ap (all_flags w) (take_all i t.nodes h) ∙ tree_flags w t))

pub ruleset stacking = (reverse_push)

-- In a tree whose expression is a polynomial no node has a fault by the coefficients of its operands.
use Rattle.std.proofs.Common.{◌≡◌, ℕ, zero, suc, ◌+◌, ◌<◌, List, [], ◌∷◌, ◌++◌, length, take, arith, sym, ap, subst, ◌∙◌, append-nil}
use Rattle.emp_ast.specs.declared.tree.Operator.{Operator}
use Rattle.emp_ast.specs.declared.tree.Operator.TheVariants.{Plus, Minus, Times, Over}
use Rattle.emp_ast.specs.declared.tree.Node.{Node}
use Rattle.emp_ast.specs.declared.tree.Node.TheVariants.{Neg, Power}
use Rattle.emp_ast.specs.declared.tree.Tree.{Tree}
use Rattle.emp_ast.specs.Expression.{Expression, number, variable, negated, joined, power, takes, expressions_from, first_of, expression_of}
use Rattle.emp_ast.specs.Nodes.{size, join_node, root, nodes_from}
use Rattle.emp_ast.proofs.Nodes.{reads_as, nodes_are_expressions}
use Rattle.emp_form.specs.Expansion.{form, JoinFits, RootFits, IsPolynomial, expression_at}

-- after each of the nodes the last expression has no such fault at its root
abbrev AllFit : List Expression → List Node → Type 0
AllFit done [] = Unit {0}
AllFit done (n ∷ ns) = RootFits (first_of (takes n done)) × AllFit (takes n done) ns

fit-append : (done : List Expression) (xs ys : List Node) → AllFit done xs → AllFit (expressions_from done xs) ys → AllFit done (xs ++ ys)
fit-append done [] ys h k = k
fit-append done (x ∷ xs) ys h k = (h.0, fit-append (takes x done) xs ys h.1 k)

fit_at : (done : List Expression) (ns : List Node) (at : ℕ) → at < length ns → AllFit done ns → RootFits (first_of (expressions_from done (take (suc at) ns)))
fit_at done [] at l h = absurd (omega arith)
fit_at done (n ∷ ns) zero l h = h.0
fit_at done (n ∷ ns) (suc at) l h = fit_at (takes n done) ns at (omega arith) h.1

-- ---- the nodes of an expression
reads_alone : (e : Expression) (before : ℕ) (done : List Expression) → expressions_from done (nodes_from before e) ≡ e ∷ done
reads_alone e before done = ap (λ l. expressions_from done l) (sym (append-nil (nodes_from before e))) ∙ reads_as e before done []

join_fits : (op : Operator) (e f : Expression) (a b : ℕ) (done : List Expression) → JoinFits op (form e) (form f) → RootFits (first_of (takes (join_node op a b) (f ∷ e ∷ done)))
join_fits Plus e f a b done h = h
join_fits Minus e f a b done h = h
join_fits Times e f a b done h = h
join_fits Over e f a b done h = h

nodes_fit : (e : Expression) (before : ℕ) (done : List Expression) → IsPolynomial e → AllFit done (nodes_from before e)
nodes_fit (number f) before done h = (tt, tt)
nodes_fit (variable k) before done h = (tt, tt)
nodes_fit (negated e) before done h =
    fit-append done (nodes_from before e) (Neg (root before e) ∷ []) (nodes_fit e before done h)
    (subst (λ d. AllFit d (Neg (root before e) ∷ [])) (sym (reads_alone e before done)) (tt, tt))
nodes_fit (joined op e f) before done h =
    let n = join_node op (root before e) (root (before + size e) f) in
    fit-append done (nodes_from before e ++ nodes_from (before + size e) f) (n ∷ [])
    (fit-append done (nodes_from before e) (nodes_from (before + size e) f) (nodes_fit e before done h.1)
    (nodes_fit f (before + size e) (expressions_from done (nodes_from before e)) h.2))
    (subst (λ d. AllFit d (n ∷ [])) (sym (reads_as e before done (nodes_from (before + size e) f) ∙ reads_alone f (before + size e) (e ∷ done)))
    (join_fits op e f (root before e) (root (before + size e) f) done h.0, tt))
nodes_fit (power e n) before done h =
    fit-append done (nodes_from before e) (Power (root before e) n ∷ []) (nodes_fit e before done h.1)
    (subst (λ d. AllFit d (Power (root before e) n ∷ [])) (sym (reads_alone e before done)) (h.0, tt))

pub roots_fit : (t : Tree) (at : ℕ) → IsPolynomial (expression_of t.nodes) → at < length t.nodes → RootFits (expression_at t.nodes at)
roots_fit t at h l =
    let same = nodes_are_expressions.nodes t.nodes t.whole in
    let all : AllFit [] t.nodes = subst (λ ns. AllFit [] ns) (sym same) (nodes_fit (expression_of t.nodes) 0 [] h) in
    let next : suc at ≡ at + 1 = omega arith in
    subst (λ n. RootFits (first_of (expressions_from [] (take n t.nodes)))) next (fit_at [] t.nodes at l all)

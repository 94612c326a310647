-- Nodes in postorder are those of an expression, and the nodes of an expression are in postorder.
use Rattle.std.proofs.Common.{◌≡◌, ℕ, ◌+◌, ◌-◌, ◌≤◌, Bool, true, false, ◌&&◌, nat_eq, List, [], ◌∷◌, ◌++◌, arith, refl, sym, ap, ap₂, subst, subst₂, ◌∙◌, append_assoc, append-nil}
use Rattle.std.proofs.lemmas.Bool.{and_parts, and_from, eqb-true, eq-eqb}
use Rattle.emp_ast.specs.declared.tree.Operator.{Operator}
use Rattle.emp_ast.specs.declared.tree.Operator.TheVariants.{Plus, Minus, Times, Over}
use Rattle.emp_ast.specs.declared.tree.Node.{Node}
use Rattle.emp_ast.specs.declared.tree.Node.TheVariants.{Number, Var, Neg, Add, Sub, Mul, Div, Power}
use Rattle.emp_ast.specs.Expression.{Expression, number, variable, negated, joined, power, joins, alters, takes, expressions_from, first_of, expression_of, pops, operands, is_postorder_from, is_postorder}
use Rattle.emp_ast.specs.Nodes.{size, join_node, root, nodes_from, NodesAreExpressions}

-- ---- lists
snoc_more : {A : Type 0} (xs : List A) (x : A) (rest : List A) → (xs ++ x ∷ []) ++ rest ≡ xs ++ (x ∷ rest)
snoc_more xs x rest = append_assoc xs (x ∷ []) rest

two_more : {A : Type 0} (xs ys : List A) (x : A) (rest : List A) → (xs ++ (ys ++ x ∷ [])) ++ rest ≡ xs ++ (ys ++ (x ∷ rest))
two_more xs ys x rest = append_assoc xs (ys ++ x ∷ []) rest ∙ ap (λ l. xs ++ l) (snoc_more ys x rest)

join_more : {A : Type 0} (xs ys : List A) (x : A) (rest : List A) → ((xs ++ ys) ++ x ∷ []) ++ rest ≡ xs ++ (ys ++ (x ∷ rest))
join_more xs ys x rest = append_assoc (xs ++ ys) (x ∷ []) rest ∙ append_assoc xs ys (x ∷ rest)

three_more : {A : Type 0} (xs ys zs : List A) (x : A) (rest : List A) → (xs ++ ((ys ++ zs) ++ x ∷ [])) ++ rest ≡ xs ++ (ys ++ (zs ++ (x ∷ rest)))
three_more xs ys zs x rest = append_assoc xs ((ys ++ zs) ++ x ∷ []) rest ∙ ap (λ l. xs ++ l) (join_more ys zs x rest)

pub size_above_zero : (e : Expression) → 1 ≤ size e
size_above_zero (number f) = omega arith
size_above_zero (variable k) = omega arith
size_above_zero (negated e) = omega arith
size_above_zero (joined op e f) = omega arith
size_above_zero (power e n) = omega arith

-- ---- an operator's node takes the last two expressions, and its operands are the last two roots
takes_join : (op : Operator) (a b : ℕ) (done : List Expression) → takes (join_node op a b) done ≡ joins op done
takes_join Plus a b done = refl
takes_join Minus a b done = refl
takes_join Times a b done = refl
takes_join Over a b done = refl

operands_join : (op : Operator) (a b : ℕ) → operands (join_node op a b) ≡ b ∷ a ∷ []
operands_join Plus a b = refl
operands_join Minus a b = refl
operands_join Times a b = refl
operands_join Over a b = refl

-- ---- the nodes of an expression stand for it
pub reads_as : (e : Expression) (before : ℕ) (done : List Expression) (rest : List Node) → expressions_from done (nodes_from before e ++ rest) ≡ expressions_from (e ∷ done) rest
reads_as (number f) before done rest = refl
reads_as (variable k) before done rest = refl
reads_as (negated e) before done rest = ap (λ l. expressions_from done l) (snoc_more (nodes_from before e) _ rest) ∙ reads_as e before done (Neg (root before e) ∷ rest)
reads_as (joined op e f) before done rest =
    let n = join_node op (root before e) (root (before + size e) f) in
    ap (λ l. expressions_from done l) (join_more (nodes_from before e) (nodes_from (before + size e) f) n rest)
    ∙ (reads_as e before done (nodes_from (before + size e) f ++ (n ∷ rest))
    ∙ (reads_as f (before + size e) (e ∷ done) (n ∷ rest)
    ∙ ap (λ d. expressions_from d rest) (takes_join op (root before e) (root (before + size e) f) (f ∷ e ∷ done))))
reads_as (power e n) before done rest = ap (λ l. expressions_from done l) (snoc_more (nodes_from before e) _ rest) ∙ reads_as e before done (Power (root before e) n ∷ rest)

-- ---- they are in postorder
pops_none : (at : ℕ) (roots : List ℕ) → pops [] at roots ≡ (at ∷ roots, true)
pops_none at [] = refl
pops_none at (r ∷ roots) = refl

pops_one : (a at : ℕ) (roots : List ℕ) → pops (a ∷ []) at (a ∷ roots) ≡ (at ∷ roots, true)
pops_one a at roots = ap₂ (λ (l : List ℕ) (b : Bool). (l, b)) (ap (λ p. p.0) (pops_none at roots)) (and_from (nat_eq a a) _ (eq-eqb a a refl) (ap (λ p. p.1) (pops_none at roots)))

pops_two : (a b at : ℕ) (roots : List ℕ) → pops (b ∷ a ∷ []) at (b ∷ a ∷ roots) ≡ (at ∷ roots, true)
pops_two a b at roots = ap₂ (λ (l : List ℕ) (x : Bool). (l, x)) (ap (λ p. p.0) (pops_one a at roots)) (and_from (nat_eq b b) _ (eq-eqb b b refl) (ap (λ p. p.1) (pops_one a at roots)))

-- what comes after a node whose operands are the last roots
after_pops : (p : List ℕ × Bool) (roots : List ℕ) (at : ℕ) (ns : List Node) → p ≡ (roots, true) → (p.1 && is_postorder_from p.0 at ns) ≡ is_postorder_from roots at ns
after_pops p roots at ns e = ap (λ q. q.1 && is_postorder_from q.0 at ns) e

at_root : (k before : ℕ) (e : Expression) (roots : List ℕ) (rest : List Node) → k ≡ before + size e → is_postorder_from (root before e ∷ roots) (before + size e) rest ≡ is_postorder_from ((k - 1) ∷ roots) k rest
at_root k before e roots rest h = ap (λ n. is_postorder_from ((n - 1) ∷ roots) n rest) (sym h)

pub in_postorder : (e : Expression) (before : ℕ) (roots : List ℕ) (rest : List Node) → is_postorder_from roots before (nodes_from before e ++ rest) ≡ is_postorder_from (root before e ∷ roots) (before + size e) rest
in_postorder (number f) before roots rest = after_pops (pops [] before roots) (before ∷ roots) (before + 1) rest (pops_none before roots) ∙ ap (λ n. is_postorder_from (n ∷ roots) (before + 1) rest) (omega arith)
in_postorder (variable k) before roots rest = after_pops (pops [] before roots) (before ∷ roots) (before + 1) rest (pops_none before roots) ∙ ap (λ n. is_postorder_from (n ∷ roots) (before + 1) rest) (omega arith)
in_postorder (negated e) before roots rest =
    let at = before + size e in
    ap (λ l. is_postorder_from roots before l) (snoc_more (nodes_from before e) _ rest)
    ∙ (in_postorder e before roots (Neg (root before e) ∷ rest)
    ∙ (after_pops (pops (root before e ∷ []) at (root before e ∷ roots)) (at ∷ roots) (at + 1) rest (pops_one (root before e) at roots)
    ∙ ap₂ (λ m n. is_postorder_from (m ∷ roots) n rest) (omega arith) (omega arith)))
in_postorder (joined op e f) before roots rest =
    let middle = before + size e in
    let at = middle + size f in
    let n = join_node op (root before e) (root middle f) in
    ap (λ l. is_postorder_from roots before l) (join_more (nodes_from before e) (nodes_from middle f) n rest)
    ∙ (in_postorder e before roots (nodes_from middle f ++ (n ∷ rest))
    ∙ (in_postorder f middle (root before e ∷ roots) (n ∷ rest)
    ∙ (after_pops (pops (operands n) at (root middle f ∷ root before e ∷ roots)) (at ∷ roots) (at + 1) rest (ap (λ o. pops o at (root middle f ∷ root before e ∷ roots)) (operands_join op (root before e) (root middle f)) ∙ pops_two (root before e) (root middle f) at roots)
    ∙ ap₂ (λ m n. is_postorder_from (m ∷ roots) n rest) (omega arith) (omega arith))))
in_postorder (power e k) before roots rest =
    let at = before + size e in
    ap (λ l. is_postorder_from roots before l) (snoc_more (nodes_from before e) _ rest)
    ∙ (in_postorder e before roots (Power (root before e) k ∷ rest)
    ∙ (after_pops (pops (root before e ∷ []) at (root before e ∷ roots)) (at ∷ roots) (at + 1) rest (pops_one (root before e) at roots)
    ∙ ap₂ (λ m n. is_postorder_from (m ∷ roots) n rest) (omega arith) (omega arith)))

-- ---- nodes in postorder are those of what they stand for
-- of expressions, the last first: how many nodes they have together, these nodes, and their roots
abbrev pub extent : List Expression → ℕ
extent [] = 0
extent (e ∷ done) = extent done + size e

abbrev pub laid : List Expression → List Node
laid [] = []
laid (e ∷ done) = laid done ++ nodes_from (extent done) e

abbrev pub roots_of : List Expression → List ℕ
roots_of [] = []
roots_of (e ∷ done) = root (extent done) e ∷ roots_of done

-- the expressions lie before the nodes, and all is one expression
abbrev IsOne : List Node → List Expression → Type 0
IsOne ns done = laid done ++ ns ≡ nodes_from 0 (first_of (expressions_from done ns))

abbrev Goes : List Node → List Expression → Type 0
Goes ns done = is_postorder_from (roots_of done) (extent done) ns ≡ true

one_operand : (a r at : ℕ) (roots : List ℕ) (ns : List Node) → ((pops (a ∷ []) at (r ∷ roots)).1 && is_postorder_from (pops (a ∷ []) at (r ∷ roots)).0 (at + 1) ns) ≡ true → (a ≡ r) × (is_postorder_from (at ∷ roots) (at + 1) ns ≡ true)
one_operand a r at roots ns h =
    let parts = and_parts _ _ h in
    let same = and_parts (nat_eq a r) _ parts.0 in
    (eqb-true a r same.0, subst (λ l. is_postorder_from l (at + 1) ns ≡ true) (ap (λ p. p.0) (pops_none at roots)) parts.1)

two_operands : (a b r s at : ℕ) (roots : List ℕ) (ns : List Node) → ((pops (b ∷ a ∷ []) at (s ∷ r ∷ roots)).1 && is_postorder_from (pops (b ∷ a ∷ []) at (s ∷ r ∷ roots)).0 (at + 1) ns) ≡ true → (a ≡ r) × (b ≡ s) × (is_postorder_from (at ∷ roots) (at + 1) ns ≡ true)
two_operands a b r s at roots ns h =
    let parts = and_parts _ _ h in
    let same = and_parts (nat_eq b s) _ parts.0 in
    let rest = one_operand a r at roots ns (and_from _ _ same.1 parts.1) in
    (rest.0, eqb-true b s same.0, rest.1)

leaf : (e : Expression) (n : Node) (ns : List Node) (done : List Expression) → size e ≡ 1 → nodes_from (extent done) e ≡ n ∷ [] → ((pops [] (extent done) (roots_of done)).1 && is_postorder_from (pops [] (extent done) (roots_of done)).0 (extent done + 1) ns) ≡ true → (Goes ns (e ∷ done) → IsOne ns (e ∷ done)) → laid done ++ (n ∷ ns) ≡ nodes_from 0 (first_of (expressions_from (e ∷ done) ns))
leaf e n ns done one is h go =
    let at = extent done in
    let rest : is_postorder_from (at ∷ roots_of done) (at + 1) ns ≡ true = sym (after_pops (pops [] at (roots_of done)) (at ∷ roots_of done) (at + 1) ns (pops_none at (roots_of done))) ∙ h in
    let rise : at + 1 ≡ at + size e = omega arith in
    let top : at ≡ root at e = omega arith in
    sym (snoc_more (laid done) n ns) ∙ (ap (λ l. (laid done ++ l) ++ ns) (sym is) ∙ go (subst₂ (λ m k. is_postorder_from (m ∷ roots_of done) k ns ≡ true) top rise rest))

unary : (w : Expression → Expression) (node : ℕ → Node) (a : ℕ) (ns : List Node) (done : List Expression) → ((e : Expression) → size (w e) ≡ size e + 1) → ((at : ℕ) (e : Expression) → nodes_from at (w e) ≡ nodes_from at e ++ node (root at e) ∷ []) → ((pops (a ∷ []) (extent done) (roots_of done)).1 && is_postorder_from (pops (a ∷ []) (extent done) (roots_of done)).0 (extent done + 1) ns) ≡ true → ((ds : List Expression) → Goes ns ds → IsOne ns ds) → laid done ++ (node a ∷ ns) ≡ nodes_from 0 (first_of (expressions_from (alters w done) ns))
unary w node a ns [] sizes is h go = cc
unary w node a ns (e ∷ done) sizes is h go =
    let before = extent done in
    let at = before + size e in
    let found = one_operand a (root before e) at (roots_of done) ns h in
    let rise : at + 1 ≡ before + size (w e) = omega (arith, sizes e) in
    let top : at ≡ root before (w e) = omega (arith, sizes e) in
    append_assoc (laid done) (nodes_from before e) (node a ∷ ns)
    ∙ (ap (λ k. laid done ++ (nodes_from before e ++ (node k ∷ ns))) found.0
    ∙ (sym (two_more (laid done) (nodes_from before e) (node (root before e)) ns)
    ∙ (ap (λ l. (laid done ++ l) ++ ns) (sym (is before e))
    ∙ go (w e ∷ done) (subst₂ (λ m k. is_postorder_from (m ∷ roots_of done) k ns ≡ true) top rise found.1))))

binary : (op : Operator) (a b : ℕ) (ns : List Node) (done : List Expression) → ((pops (b ∷ a ∷ []) (extent done) (roots_of done)).1 && is_postorder_from (pops (b ∷ a ∷ []) (extent done) (roots_of done)).0 (extent done + 1) ns) ≡ true → ((ds : List Expression) → Goes ns ds → IsOne ns ds) → laid done ++ (join_node op a b ∷ ns) ≡ nodes_from 0 (first_of (expressions_from (joins op done) ns))
binary op a b ns [] h go = cc
binary op a b ns (f ∷ []) h go = let none = (and_parts (nat_eq b (root 0 f)) false (and_parts _ _ h).0).1 in cc
binary op a b ns (f ∷ (e ∷ done)) h go =
    let before = extent done in
    let middle = before + size e in
    let at = middle + size f in
    let found = two_operands a b (root before e) (root middle f) at (roots_of done) ns h in
    let rise : at + 1 ≡ before + size (joined op e f) = omega arith in
    let top : at ≡ root before (joined op e f) = omega arith in
    append_assoc (laid (e ∷ done)) (nodes_from middle f) (join_node op a b ∷ ns)
    ∙ (append_assoc (laid done) (nodes_from before e) (nodes_from middle f ++ (join_node op a b ∷ ns))
    ∙ (ap₂ (λ j k. laid done ++ (nodes_from before e ++ (nodes_from middle f ++ (join_node op j k ∷ ns)))) found.0 found.1
    ∙ (sym (three_more (laid done) (nodes_from before e) (nodes_from middle f) (join_node op (root before e) (root middle f)) ns)
    ∙ go (joined op e f ∷ done) (subst₂ (λ m k. is_postorder_from (m ∷ roots_of done) k ns ≡ true) top rise found.2))))

pub laid_out : (ns : List Node) (done : List Expression) → Goes ns done → IsOne ns done
laid_out [] [] h = cc
laid_out [] (e ∷ []) h = append-nil (nodes_from 0 e)
laid_out [] (f ∷ (e ∷ done)) h = cc
laid_out (Number f ∷ ns) done h = leaf (number f) (Number f) ns done refl refl h (laid_out ns (number f ∷ done))
laid_out (Var v ∷ ns) done h = leaf (variable v.at) (Var v) ns done refl refl h (laid_out ns (variable v.at ∷ done))
laid_out (Neg a ∷ ns) done h = unary negated Neg a ns done (λ e. refl) (λ at e. refl) h (laid_out ns)
laid_out (Add a b ∷ ns) done h = binary Plus a b ns done h (laid_out ns)
laid_out (Sub a b ∷ ns) done h = binary Minus a b ns done h (laid_out ns)
laid_out (Mul a b ∷ ns) done h = binary Times a b ns done h (laid_out ns)
laid_out (Div a b ∷ ns) done h = binary Over a b ns done h (laid_out ns)
laid_out (Power a k ∷ ns) done h = unary (λ e. power e k) (λ at. Power at k) a ns done (λ e. refl) (λ at e. refl) h (laid_out ns)

-- ---- the law
pub nodes_of : (ns : List Node) → is_postorder ns ≡ true → ns ≡ nodes_from 0 (expression_of ns)
nodes_of ns h = laid_out ns [] h

pub postorder_of : (e : Expression) → is_postorder (nodes_from 0 e) ≡ true
postorder_of e = ap is_postorder (sym (append-nil (nodes_from 0 e))) ∙ in_postorder e 0 [] []

pub stands_of : (e : Expression) → expression_of (nodes_from 0 e) ≡ e
stands_of e = ap expression_of (sym (append-nil (nodes_from 0 e))) ∙ ap first_of (reads_as e 0 [] [])

pub nodes_are_expressions : NodesAreExpressions
nodes_are_expressions = record { nodes = nodes_of; postorder = postorder_of; stands = stands_of }

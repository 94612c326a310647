-- Expressions over other variables, and their values.
use Rattle.std.proofs.Common.{◌≡◌, ℕ, ◌+◌, ◌-◌, ◌≤◌, Bool, cond, List, [], ◌∷◌, ◌++◌, map, Option, Some, None, arith, refl, sym, ap, ap₂, subst, ◌∙◌}
use Rattle.std.proofs.lemmas.List.{map-append}
use Rattle.std.specs.Prelude.{option_map}
use Rattle.std.proofs.lemmas.Bool.{eq-eqb}
use Rattle.emp_num.specs.Ratio.{Ratio, ratio, negated as opposite, minus, power as power_of, SameRatio}
use Rattle.emp_num.specs.Point.{Point, coordinate}
use Rattle.emp_ast.specs.declared.tree.Operator.{Operator}
use Rattle.emp_ast.specs.declared.tree.Operator.TheVariants.{Plus, Minus, Times, Over}
use Rattle.emp_ast.specs.declared.tree.Node.TheVariants.{Neg, Power}
use Rattle.emp_ast.specs.declared.tree.Tree.{Tree}
use Rattle.emp_ast.specs.declared.model.Equation.{Equation}
use Rattle.emp_ast.specs.Expression.{Expression, number, variable, negated, joined, power, expression_of}
use Rattle.emp_ast.specs.Nodes.{size, join_node, root, nodes_from}
use Rattle.emp_ast.specs.Occurrence.{leaves, equation_leaves}
use Rattle.emp_ast.specs.Value.{value, operation, tree_value}
use Rattle.emp_ast.specs.Solved.{sides_gap}
use Rattle.emp_ast.specs.SameLaws.{SameFraction, SameValue}
use Rattle.emp_ast.proofs.Nodes.{nodes_of, stands_of}
use Rattle.emp_ast.proofs.Fractions.{fraction_itself, fraction_negated, fraction_minus, fraction_power, operation_same}
use Rattle.emp_ast.proofs.SameValues.{joined_both}
use Rattle.emp_mcp.specs.Target.{place_in, renumbered, IsTreeOver, IsEquationOver}

module _ (vs : List ℕ) where
  abbrev pub renamed : Expression → Expression
  renamed (number f) = number f
  renamed (variable v) = variable (place_in vs v)
  renamed (negated e) = negated (renamed e)
  renamed (joined op e f) = joined op (renamed e) (renamed f)
  renamed (power e n) = power (renamed e) n

  renamed_size : (e : Expression) → size (renamed e) ≡ size e
  renamed_size (number f) = refl
  renamed_size (variable v) = refl
  renamed_size (negated e) = ap (λ n. n + 1) (renamed_size e)
  renamed_size (joined op e f) = ap₂ (λ a b. a + b + 1) (renamed_size e) (renamed_size f)
  renamed_size (power e n) = ap (λ n. n + 1) (renamed_size e)

  renamed_root : (b : ℕ) (e : Expression) → root b (renamed e) ≡ root b e
  renamed_root b e = ap (λ n. b + n - 1) (renamed_size e)

  join_renumbered : (op : Operator) (a b : ℕ) → renumbered vs (join_node op a b) ≡ join_node op a b
  join_renumbered Plus a b = refl
  join_renumbered Minus a b = refl
  join_renumbered Times a b = refl
  join_renumbered Over a b = refl

  renamed_nodes : (b : ℕ) (e : Expression) → map (renumbered vs) (nodes_from b e) ≡ nodes_from b (renamed e)
  renamed_nodes b (number f) = refl
  renamed_nodes b (variable v) = refl
  renamed_nodes b (negated e) = map-append (renumbered vs) (nodes_from b e) (Neg (root b e) ∷ []) ∙ ap₂ (λ ns r. ns ++ Neg r ∷ []) (renamed_nodes b e) (sym (renamed_root b e))
  renamed_nodes b (joined op e f) =
      map-append (renumbered vs) (nodes_from b e ++ nodes_from (b + size e) f) (join_node op (root b e) (root (b + size e) f) ∷ [])
      ∙ ap₂ (λ ns n. ns ++ n ∷ []) (map-append (renumbered vs) (nodes_from b e) (nodes_from (b + size e) f)) (join_renumbered op (root b e) (root (b + size e) f))
      ∙ ap₂ (λ ns ks. (ns ++ ks) ++ join_node op (root b e) (root (b + size e) f) ∷ []) (renamed_nodes b e) (renamed_nodes (b + size e) f)
      ∙ ap (λ r. (nodes_from b (renamed e) ++ nodes_from (b + size e) (renamed f)) ++ join_node op r (root (b + size e) f) ∷ []) (sym (renamed_root b e))
      ∙ ap (λ r. (nodes_from b (renamed e) ++ nodes_from (b + size e) (renamed f)) ++ join_node op (root b (renamed e)) r ∷ []) (sym (renamed_root (b + size e) f))
      ∙ ap (λ n. (nodes_from b (renamed e) ++ nodes_from (b + n) (renamed f)) ++ join_node op (root b (renamed e)) (root (b + n) (renamed f)) ∷ []) (sym (renamed_size e))
  renamed_nodes b (power e n) = map-append (renumbered vs) (nodes_from b e) (Power (root b e) n ∷ []) ∙ ap₂ (λ ns r. ns ++ Power r n ∷ []) (renamed_nodes b e) (sym (renamed_root b e))

  pub renamed_tree : (s t : Tree) → IsTreeOver vs s t → expression_of t.nodes ≡ renamed (expression_of s.nodes)
  renamed_tree s t h = ap expression_of (h.nodes ∙ ap (map (renumbered vs)) (nodes_of s.nodes s.whole) ∙ renamed_nodes 0 (expression_of s.nodes)) ∙ stands_of (renamed (expression_of s.nodes))

  -- ---- values
  mapped : (f : Ratio → Ratio) → ((x y : Ratio) → SameFraction x y → SameFraction (f x) (f y)) → (x y : Option Ratio) → SameValue x y → SameValue (option_map f x) (option_map f y)
  mapped f keeps (Some x) (Some y) h = keeps x y h
  mapped f keeps (Some x) None h = h
  mapped f keeps None (Some y) h = h
  mapped f keeps None None h = h

  is_leaf : (k : ℕ) → 1 ≤ leaves k (variable k)
  is_leaf k = subst (λ (b : Bool). 1 ≤ cond b 1 0) (sym (eq-eqb k k refl)) (omega arith)

  -- p has the coordinates of q for the leaves
  renamed_value : (e : Expression) (p q : Point) → ((v : ℕ) → 1 ≤ leaves v e → SameRatio (coordinate q v) (coordinate p (place_in vs v))) → SameValue (value q e) (value p (renamed e))
  renamed_value (number f) p q h = fraction_itself (ratio f.num f.den) f.positive
  renamed_value (variable k) p q h = record { left = q.positive; right = p.positive; same = h k (is_leaf k) }
  renamed_value (negated e) p q h = mapped opposite fraction_negated (value q e) (value p (renamed e)) (renamed_value e p q h)
  renamed_value (joined op e f) p q h =
      joined_both (operation op) (operation_same op) (value q e) (value p (renamed e)) (value q f) (value p (renamed f))
      (renamed_value e p q (λ v l. h v (omega arith)))
      (renamed_value f p q (λ v l. h v (omega arith)))
  renamed_value (power e n) p q h = mapped (λ x. power_of x n) (fraction_power n) (value q e) (value p (renamed e)) (renamed_value e p q h)

  tree_over : (s t : Tree) (p q : Point) → IsTreeOver vs s t → ((v : ℕ) → 1 ≤ leaves v (expression_of s.nodes) → SameRatio (coordinate q v) (coordinate p (place_in vs v))) → SameValue (tree_value q s) (tree_value p t)
  tree_over s t p q h same = subst (λ e. SameValue (tree_value q s) (value p e)) (sym (renamed_tree s t h)) (renamed_value (expression_of s.nodes) p q same)

  pub gap_over : (c d : Equation) (p q : Point) → IsEquationOver vs c d → ((v : ℕ) → 1 ≤ equation_leaves v c → SameRatio (coordinate q v) (coordinate p (place_in vs v))) → SameValue (sides_gap q c) (sides_gap p d)
  gap_over c d p q h same =
      joined_both (λ x y. Some (minus x y)) fraction_minus (tree_value q c.left) (tree_value p d.left) (tree_value q c.right) (tree_value p d.right)
      (tree_over c.left d.left p q h.left (λ v l. same v (omega arith)))
      (tree_over c.right d.right p q h.right (λ v l. same v (omega arith)))

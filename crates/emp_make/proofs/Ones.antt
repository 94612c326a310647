-- A market is one, places aside.
use Rattle.std.proofs.Common.{◌≡◌, ◌⊎◌, inl, inr, ℕ, suc, ◌+◌, ◌-◌, ◌<◌, ◌≤◌, List, [], ◌∷◌, length, Some, refl, sym, ap, subst, ◌∙◌, arith}
use Rattle.std.specs.List.{slice_get}
use Rattle.std.proofs.lemmas.Bool.{cases_lt}
use Rattle.std.proofs.lemmas.Option.{same_Some}
use Rattle.emp_ast.specs.declared.tree.Tree.{Tree}
use Rattle.emp_ast.specs.declared.model.Equation.{Equation}
use Rattle.emp_ast.specs.declared.model.Model.{Model}
use Rattle.emp_ast.specs.declared.annot.Annot.{Annot}
use Rattle.emp_ast.specs.Expression.{expression_of}
use Rattle.emp_ast.specs.Nodes.{nodes_from}
use Rattle.emp_ast.specs.Names.{SameEquation, SameEquations, SameModel}
use Rattle.emp_ast.proofs.Nodes.{nodes_of}
use Rattle.emp_make.specs.Markets.{IsProfitEquation, IsMarketModel, IsMarketAnnot}

-- ---- lists
same_lists : {X : Type 0} (xs ys : List X) → length xs ≡ length ys → ((k : ℕ) → k < length xs → slice_get xs k ≡ slice_get ys k) → xs ≡ ys
same_lists [] [] e h = refl
same_lists [] (y ∷ ys) e h = absurd (omega (arith, e))
same_lists (x ∷ xs) [] e h = absurd (omega (arith, e))
same_lists (x ∷ xs) (y ∷ ys) e h =
    let heads : x ≡ y = same_Some x y (h 0 (omega arith)) in
    let tails : xs ≡ ys = same_lists xs ys (omega (arith, e)) (λ k l. h (suc k) (omega (arith, l))) in
    λ i. heads i ∷ tails i

same_equations : (es fs : List Equation) → length es ≡ length fs → ((k : ℕ) (e f : Equation) → slice_get es k ≡ Some e → slice_get fs k ≡ Some f → SameEquation e f) → SameEquations es fs
same_equations [] [] e h = tt
same_equations [] (f ∷ fs) e h = absurd (omega (arith, e))
same_equations (x ∷ xs) [] e h = absurd (omega (arith, e))
same_equations (x ∷ xs) (f ∷ fs) e h = (h 0 x f refl refl, same_equations xs fs (omega (arith, e)) (λ k. h (suc k)))

-- ---- equations
same_nodes : (t u : Tree) → expression_of t.nodes ≡ expression_of u.nodes → t.nodes ≡ u.nodes
same_nodes t u e = nodes_of t.nodes t.whole ∙ (ap (nodes_from 0) e ∙ sym (nodes_of u.nodes u.whole))

one_equation : (seed firms k : ℕ) (e f : Equation) → IsProfitEquation seed firms k e → IsProfitEquation seed firms k f → SameEquation e f
one_equation seed firms k e f h g = record {
  name = h.name ∙ sym g.name;
  left = same_nodes e.left f.left (h.left ∙ sym g.left);
  right = same_nodes e.right f.right (h.right ∙ sym g.right);
  relation = h.relation ∙ sym g.relation;
}

-- ---- models
below_or_above : (k n : ℕ) → k < n + n → (k < n) ⊎ ((j : ℕ) × (j < n) × (k ≡ n + j))
below_or_above k n h = go (cases_lt k n)
  where
    go : (k < n) ⊎ (n ≤ k) → (k < n) ⊎ ((j : ℕ) × (j < n) × (k ≡ n + j))
    go (inl l) = inl l
    go (inr l) = inr (k - n, omega (arith, l, h), omega (arith, l))

one_variable : (seed firms : ℕ) (m n : Model) → IsMarketModel seed firms m → IsMarketModel seed firms n → (k : ℕ) → (k < firms) ⊎ ((j : ℕ) × (j < firms) × (k ≡ firms + j)) → slice_get m.variables k ≡ slice_get n.variables k
one_variable seed firms m n h g k (inl l) = h.profits k l ∙ sym (g.profits k l)
one_variable seed firms m n h g k (inr q) = subst (λ i. slice_get m.variables i ≡ slice_get n.variables i) (sym q.2) (h.quantities q.0 q.1 ∙ sym (g.quantities q.0 q.1))

pub one_model : (seed firms : ℕ) (m n : Model) → IsMarketModel seed firms m → IsMarketModel seed firms n → SameModel m n
one_model seed firms m n h g = record {
  name = h.name ∙ sym g.name;
  variables = same_lists m.variables n.variables (h.variables ∙ sym g.variables) (λ k l. one_variable seed firms m n h g k (below_or_above k firms (subst (λ i. k < i) h.variables l)));
  equations = same_equations m.equations n.equations (h.equations ∙ sym g.equations) (λ k e f p q. one_equation seed firms k e f (h.each k e p) (g.each k f q));
  goal = h.goal ∙ sym g.goal;
}

-- ---- annotations
same_annot : (a b : Annot) → a.bilevel ≡ b.bilevel → a.leader ≡ b.leader → a.blocks ≡ b.blocks → a.duals ≡ b.duals → a.visols ≡ b.visols → a.implicits ≡ b.implicits → a ≡ b
same_annot a b p q r s t u = λ i. record { bilevel = p i; leader = q i; blocks = r i; duals = s i; visols = t i; implicits = u i }

pub one_annot : (firms : ℕ) (a b : Annot) → IsMarketAnnot firms a → IsMarketAnnot firms b → a ≡ b
one_annot firms a b h g =
    same_annot a b (h.bilevel ∙ sym g.bilevel) (h.leader ∙ sym g.leader)
    (same_lists a.blocks b.blocks (h.count ∙ sym g.count) (λ k l. let inside = subst (λ i. k < i) h.count l in h.blocks k inside ∙ sym (g.blocks k inside)))
    (h.duals ∙ sym g.duals) (h.visols ∙ sym g.visols) (h.implicits ∙ sym g.implicits)

-- The files of a market are of the class, and each firm is convex in its quantity.
use Rattle.std.proofs.Common.{◌≡◌, ℕ, ◌+◌, ◌<◌, ℤ, pos, negsuc, neg_ℤ, ◌+ℤ◌, ◌*ℤ◌, ◌≤ℤ◌, Bool, true, false, ◌||◌, cond, nat_eq, List, [], ◌∷◌, map, length, slice_index_or, Some, arith, refl, sym, ap, ap₂, subst, ◌∙◌}
use Rattle.std.specs.Prelude.{slice_get, nat_lt}
use Rattle.std.proofs.lemmas.Bool.{false≢true, eq-eqb, eqb-true}
use Rattle.emp_algebra.proofs.Order.{linear, square_nonneg}
use Rattle.emp_algebra.proofs.Ring.{var, lit, ◌⊕◌, ◌⊗◌, by_ring}
use Rattle.emp_ast.specs.declared.tree.VarId.{VarId}
use Rattle.emp_ast.specs.declared.model.Sense.TheVariants.{Max}
use Rattle.emp_ast.specs.declared.model.Equation.{Equation}
use Rattle.emp_ast.specs.declared.model.Model.{Model}
use Rattle.emp_ast.specs.declared.annot.Annot.{Annot}
use Rattle.emp_ast.specs.Parties.{block, names_variable}
use Rattle.emp_ast.specs.Convex.{counted, IsConvex}
use Rattle.emp_form.specs.Partial.{second_at}
use Rattle.emp_ldl.specs.Whole.{IsSemidefinite}
use Rattle.emp_agents.specs.Given.{given_form}
use Rattle.emp_agents.specs.Convex.{counted_numbers, for_objective, agent_curvature, IsAgent}
use Rattle.emp_agents.proofs.Given.{given_form_is}
use Rattle.emp_agents.proofs.Convex.{curvature_is_convex}
use Rattle.emp_problem.specs.Class.{Expands, IsClassFile}
use Rattle.emp_make.specs.Markets.{quantity, IsMarketModel}
use Rattle.emp_market.proofs.AcceptLists.{found}
use Rattle.emp_market.proofs.AcceptOwners.{annot_of, annot_fits, goal_fits, is_kept}
use Rattle.emp_market.proofs.AcceptDefines.{objective_is, defines_profit, counted_is, none_affine}
use Rattle.emp_market.proofs.AcceptForms.{expands, solved_square}

or_false : (b : Bool) → (b || false) ≡ true → b ≡ true
or_false true h = refl
or_false false h = h

-- a matrix of one cell, which is not negative
one_cell : (a : ℕ → ℕ → ℤ) → a 0 0 ≡ pos 2 → IsSemidefinite a 1
one_cell a e [] l = omega (arith, linear)
one_cell a e (x ∷ []) l =
    let s = square_nonneg x in
    let same : (a 0 0 *ℤ x +ℤ pos 0) *ℤ x +ℤ pos 0 ≡ x *ℤ x +ℤ x *ℤ x = ap (λ z. (z *ℤ x +ℤ pos 0) *ℤ x +ℤ pos 0) e ∙ by_ring (x ∷ []) ((lit (pos 2) ⊗ var 0 ⊕ lit (pos 0)) ⊗ var 0 ⊕ lit (pos 0)) (var 0 ⊗ var 0 ⊕ var 0 ⊗ var 0) refl in
    subst (λ z. pos 0 ≤ℤ z) (sym same) (omega (arith, linear, s))
one_cell a e (x ∷ y ∷ xs) l = absurd (omega arith)

module _ (m : Model) (firms seed : ℕ) (h : IsMarketModel seed firms m) where
  abbrev A : Annot
  A = annot_of firms

  all_expand : (e : ℕ) (q : Equation) → slice_get m.equations e ≡ Some q → Expands q
  all_expand e q is = expands seed firms e q (h.each e q is)

  pub is_class : IsClassFile m A
  is_class = record {
    goal = goal_fits m h.goal;
    fits = annot_fits m firms h.variables h.equations;
    kept = is_kept m firms h.variables h.equations;
    expanded = all_expand;
    linear = λ e q is affine. absurd (false≢true (sym (none_affine m firms seed h e) ∙ affine));
    leads = λ bilevel. absurd (false≢true bilevel);
  }

  -- ---- convexity
  only_quantity : (k v : ℕ) → k < firms → names_variable (counted m A k) v ≡ true → v < length m.variables
  only_quantity k v l named = go (sym (ap (λ vs. names_variable vs v) (counted_is m firms seed h k l)) ∙ named)
    where
      go : (nat_eq (firms + k) v || false) ≡ true → v < length m.variables
      go n =
          let same = eqb-true (firms + k) v (or_false (nat_eq (firms + k) v) n) in
          let count = h.variables in
          omega (arith, same, count)

  is_agent : (k : ℕ) → k < firms → IsAgent m A k
  is_agent k l = record {
    goal = (Max, k);
    is = objective_is m firms k l;
    polynomials = λ e q at def. all_expand e q at;
    within = λ v. only_quantity k v l;
  }

  given_square : (k : ℕ) → k < firms → (given_form m A (block k)).square (quantity firms k) (quantity firms k) ≡ negsuc 0
  given_square k l =
      let count = h.equations in
      let q = found m.equations k (omega (arith, count)) in
      ap (λ f. f.square (quantity firms k) (quantity firms k)) ((given_form_is m A (block k) (Max, k) (objective_is m firms k l)).defined k q.0 q.1 (defines_profit m firms seed h k l)) ∙ solved_square seed firms k q.0 (h.each k q.0 q.1)

  twice_down : (s : ℕ → ℕ → ℤ) (v : ℕ) → s v v ≡ negsuc 0 → second_at s v v ≡ negsuc 1
  twice_down s v e = ap (λ b. cond b (pos 2 *ℤ s v v) (cond (nat_lt v v) (s v v) (s v v))) (eq-eqb v v refl) ∙ ap (λ z. pos 2 *ℤ z) e

  curvature : (k : ℕ) → k < firms → agent_curvature m A k 0 0 ≡ pos 2
  curvature k l =
      let s = (given_form m A (block k)).square in
      let first : slice_index_or (counted_numbers m A k) 0 0 ≡ quantity firms k = ap (λ (vs : List VarId). slice_index_or (map (λ v. v.at) vs) 0 0) (counted_is m firms seed h k l) in
      ap₂ (λ o v. for_objective o (second_at s v v)) (objective_is m firms k l) first ∙ ap neg_ℤ (twice_down s (quantity firms k) (given_square k l))

  pub is_convex : (k : ℕ) → k < firms → IsConvex m A k
  is_convex k l =
      let one : length (counted m A k) ≡ 1 = ap length (counted_is m firms seed h k l) in
      (curvature_is_convex.whole m A k (is_agent k l)).1 (subst (λ n. IsSemidefinite (agent_curvature m A k) n) (sym one) (one_cell (agent_curvature m A k) (curvature k l)))

-- The equation of each firm of a market defines its profit, so that no constraint is left.
use Rattle.std.proofs.Common.{◌≡◌, ◌⊎◌, inl, inr, ℕ, zero, suc, ◌+◌, ◌<◌, ◌≤◌, Bool, true, false, cond, ◌&&◌, not, nat_eq, List, [], ◌∷◌, length, Some, arith, refl, sym, ap, ap₂, ◌∙◌}
use Rattle.std.specs.Prelude.{slice_get}
use Rattle.std.specs.List.{list_any}
use Rattle.std.proofs.lemmas.Bool.{or_from, or_left, and_from, and_left, and_right, eq-eqb, ne_eqb, cases_eq, cases_lt}
use Rattle.std.proofs.lemmas.Option.{slice_get_past}
use Rattle.std.proofs.lemmas.List.Sums.{length-filter}
use Rattle.emp_num.specs.Whole.{whole}
use Rattle.emp_ast.specs.declared.tree.EquId.{EquId}
use Rattle.emp_ast.specs.declared.tree.Operator.TheVariants.{Minus}
use Rattle.emp_ast.specs.declared.model.Sense.TheVariants.{Max}
use Rattle.emp_ast.specs.declared.model.Equation.{Equation}
use Rattle.emp_ast.specs.declared.model.Model.{Model}
use Rattle.emp_ast.specs.declared.annot.Annot.{Annot}
use Rattle.emp_ast.specs.Expression.{number, variable, joined, expression_of}
use Rattle.emp_ast.specs.Occurrence.{leaves, equation_leaves, occurrences, is_summand, is_summand_of}
use Rattle.emp_ast.specs.Parties.{names_equation, block_equations, block, equations_by, equations, holders, has_alone, block_objective, objective, has_no_bound, is_equality, ties, can_define, defines_by, defines, is_defined_by, is_defined_of, is_constraint, constraints}
use Rattle.emp_ast.specs.Convex.{counted_by, counted}
use Rattle.emp_problem.specs.Class.{some_block_constrains, is_affine}
use Rattle.emp_meaning.proofs.TieLists.{one_if}
use Rattle.emp_make.specs.Markets.{first_of_market, demand, has_rival, quantity, price, profit, firm_block, IsProfitEquation, IsMarketModel}
use Rattle.emp_market.proofs.AcceptLists.{length-listed, get-listed, count_one, found, filter_none}
use Rattle.emp_market.proofs.AcceptOwners.{annot_of, no_function}

-- ---- the profits stand in no price and no cost
no_leaf : (w v : ℕ) → w < v → leaves w (variable v) ≡ 0
no_leaf w v l = ap one_if (ne_eqb v w (λ e. omega arith))

price_leaves : (seed firms j w : ℕ) → w < firms → leaves w (price seed firms j) ≡ 0
price_leaves seed firms j w l = go (has_rival firms j)
  where
    go : (b : Bool) → leaves w (cond b (joined Minus (joined Minus (number (whole (demand seed j))) (variable (quantity firms (first_of_market j)))) (variable (quantity firms (first_of_market j + 1)))) (joined Minus (number (whole (demand seed j))) (variable (quantity firms j)))) ≡ 0
    go true =
        let x = no_leaf w (quantity firms (first_of_market j)) (omega arith) in
        let y = no_leaf w (quantity firms (first_of_market j + 1)) (omega arith) in
        omega (arith, x, y)
    go false =
        let x = no_leaf w (quantity firms j) (omega arith) in
        omega (arith, x)

profit_leaves : (seed firms j w : ℕ) → w < firms → leaves w (profit seed firms j) ≡ 0
profit_leaves seed firms j w l =
    let x = price_leaves seed firms j w l in
    let y = no_leaf w (quantity firms j) (omega arith) in
    omega (arith, x, y)

profit_once : (seed firms j w : ℕ) (q : Equation) → w < firms → IsProfitEquation seed firms j q → equation_leaves w q ≡ one_if (nat_eq j w)
profit_once seed firms j w q l h =
    let x : leaves w (expression_of q.left.nodes) ≡ one_if (nat_eq j w) = ap (leaves w) h.left in
    let y : leaves w (expression_of q.right.nodes) ≡ 0 = ap (leaves w) h.right ∙ profit_leaves seed firms j w l in
    omega (arith, x, y)

-- ---- one of the equations, which count from `at`, has the leaf
abbrev EachOnce : ℕ → ℕ → List Equation → Type 0
EachOnce w at qs = (j : ℕ) (q : Equation) → slice_get qs j ≡ Some q → equation_leaves w q ≡ one_if (nat_eq (at + j) w)

next_once : (w at : ℕ) (q : Equation) (qs : List Equation) → EachOnce w at (q ∷ qs) → EachOnce w (suc at) qs
next_once w at q qs h j r is =
    let e : at + suc j ≡ suc at + j = omega arith in
    h (suc j) r is ∙ ap (λ n. one_if (nat_eq n w)) e

occurs_never : (w at : ℕ) (qs : List Equation) → EachOnce w at qs → w < at → occurrences w qs ≡ 0
occurs_never w at [] h l = refl
occurs_never w at (q ∷ qs) h l =
    let x : equation_leaves w q ≡ 0 = h 0 q refl ∙ ap one_if (ne_eqb (at + 0) w (λ e. omega arith)) in
    let y = occurs_never w (suc at) qs (next_once w at q qs h) (omega arith) in
    omega (arith, x, y)

occurs_once : (w at : ℕ) (qs : List Equation) → EachOnce w at qs → at ≤ w → w < at + length qs → occurrences w qs ≡ 1
occurs_once w at [] h l k = absurd (omega arith)
occurs_once w at (q ∷ qs) h l k = go (cases_eq at w) (λ l' k'. occurs_once w (suc at) qs (next_once w at q qs h) l' k')
  where
    go : (at ≡ w) ⊎ (at ≡ w → ⊥) → (suc at ≤ w → w < suc at + length qs → occurrences w qs ≡ 1) → occurrences w (q ∷ qs) ≡ 1
    go (inl e) rest =
        let x : equation_leaves w q ≡ 1 = h 0 q refl ∙ ap one_if (eq-eqb (at + 0) w (omega arith)) in
        let y = occurs_never w (suc at) qs (next_once w at q qs h) (omega arith) in
        omega (arith, x, y)
    go (inr ne) rest =
        let x : equation_leaves w q ≡ 0 = h 0 q refl ∙ ap one_if (ne_eqb (at + 0) w (λ e. omega arith)) in
        let y = rest (omega arith) (omega arith) in
        omega (arith, x, y)

-- ---- the parties
module _ (m : Model) (firms : ℕ) where
  abbrev A : Annot
  A = annot_of firms

  pub block_at : (k : ℕ) → k < firms → slice_get A.blocks k ≡ Some (firm_block firms k)
  block_at k l =
      let same : 0 + k ≡ k = omega arith in
      get-listed (firm_block firms) 0 firms k l ∙ ap (λ j. Some (firm_block firms j)) same

  pub objective_is : (k : ℕ) → k < firms → objective m A (block k) ≡ Some (Max, k)
  objective_is k l = ap block_objective (block_at k l)

  equations_are : (k : ℕ) → k < firms → equations m A (block k) ≡ record { at = k } ∷ []
  equations_are k l = ap (equations_by A) (block_at k l)

  one_holds : (k : ℕ) → k < firms → holders A k ≡ 1
  one_holds k l =
      length-filter (λ b. names_equation (block_equations A b) k) A.blocks ∙ count_one (λ b. names_equation (block_equations A b) k) (firm_block firms) 0 firms k (omega arith) (omega arith) (or_left (nat_eq k k) false (eq-eqb k k refl)) (λ j a b ne. or_from (nat_eq j k) false (ne_eqb j k ne) refl)

  alone : (k : ℕ) → k < firms → has_alone m A (block k) k ≡ true
  alone k l =
      and_from _ _ (ap (λ es. names_equation es k) (equations_are k l) ∙ or_left (nat_eq k k) false (eq-eqb k k refl)) (eq-eqb (holders A k) 1 (one_holds k l))

  module _ (seed : ℕ) (h : IsMarketModel seed firms m) where
    occurs : (k : ℕ) → k < firms → occurrences k m.equations ≡ 1
    occurs k l =
        let count = h.equations in
        occurs_once k 0 m.equations (λ j q is. let same : 0 + j ≡ j = omega arith in profit_once seed firms j k q l (h.each j q is) ∙ ap (λ n. one_if (nat_eq n k)) (sym same)) (omega arith) (omega (arith, count))

    tied : (k : ℕ) → k < firms → ties k (slice_get m.equations k) ≡ true
    tied k l =
        let count = h.equations in
        let q = found m.equations k (omega (arith, count)) in
        let e = h.each k q.0 q.1 in
        ap (ties k) q.1 ∙ and_from (is_equality q.0.relation) (is_summand_of k q.0) (ap is_equality e.relation) (or_left (is_summand k (expression_of q.0.left.nodes)) _ (ap (is_summand k) e.left ∙ eq-eqb k k refl))

    pub defines_profit : (k : ℕ) → k < firms → defines m A (block k) k ≡ true
    defines_profit k l =
        ap (defines_by m A (block k) k) (objective_is k l) ∙ and_from (can_define m A k k) (has_alone m A (block k) k)
        (and_from _ _ (and_from _ _ (and_from _ _ (and_from (has_no_bound (slice_get m.variables k)) true (ap has_no_bound (h.profits k l)) refl) (eq-eqb (occurrences k m.equations) 1 (occurs k l))) (tied k l)) refl)
        (alone k l)

    -- ---- the quantity alone is counted
    profit_defined : (k : ℕ) → k < firms → is_defined_of m A (block k) k ≡ true
    profit_defined k l =
        ap (is_defined_by m A (block k) k) (objective_is k l) ∙ and_from _ _ (eq-eqb k k refl) (ap (list_any (λ (e : EquId). defines m A (block k) e.at)) (equations_are k l) ∙ or_left (defines m A (block k) k) false (defines_profit k l))

    quantity_stays : (k : ℕ) → k < firms → is_defined_of m A (block k) (firms + k) ≡ false
    quantity_stays k l = ap (is_defined_by m A (block k) (firms + k)) (objective_is k l) ∙ and_left _ _ (ne_eqb k (firms + k) (λ e. omega arith))

    pub counted_is : (k : ℕ) → k < firms → counted m A k ≡ record { at = firms + k } ∷ []
    counted_is k l =
        ap (counted_by m A k) (block_at k l) ∙ ap₂ (λ b c. cond (not b) (record { at = k } ∷ cond (not c) (record { at = firms + k } ∷ []) []) (cond (not c) (record { at = firms + k } ∷ []) [])) (profit_defined k l) (quantity_stays k l)

    -- ---- no constraint is left
    none_within : (k e : ℕ) → k < firms → is_constraint m A (block k) e ≡ false
    none_within k e l = and_left _ _ (go (cases_eq k e))
      where
        go : (k ≡ e) ⊎ (k ≡ e → ⊥) → (names_equation (equations m A (block k)) e && not (defines m A (block k) e)) ≡ false
        go (inl s) = and_right (names_equation (equations m A (block k)) e) _ (ap not (ap (defines m A (block k)) (sym s) ∙ defines_profit k l))
        go (inr ne) = and_left _ _ (ap (λ es. names_equation es e) (equations_are k l) ∙ or_from (nat_eq k e) false (ne_eqb k e ne) refl)

    none_past : (k e : ℕ) → firms ≤ k → is_constraint m A (block k) e ≡ false
    none_past k e l =
        let count = length-listed (firm_block firms) 0 firms in
        let none : equations m A (block k) ≡ [] = ap (equations_by A) (slice_get_past A.blocks k (omega (arith, count))) in
        and_left _ _ (and_left _ _ (ap (λ es. names_equation es e) none))

    pub no_constraint : (k e : ℕ) → is_constraint m A (block k) e ≡ false
    no_constraint k e = go (cases_lt k firms)
      where
        go : (k < firms) ⊎ (firms ≤ k) → is_constraint m A (block k) e ≡ false
        go (inl l) = none_within k e l
        go (inr l) = none_past k e l

    pub constraints_none : (k : ℕ) → constraints m A (block k) ≡ []
    constraints_none k = filter_none (λ (e : EquId). is_constraint m A (block k) e.at) (equations m A (block k)) (λ e. no_constraint k e.at)

    none_constrains : (e n : ℕ) → some_block_constrains m A e n ≡ false
    none_constrains e zero = refl
    none_constrains e (suc n) = or_from _ _ (no_constraint n e) (none_constrains e n)

    pub none_affine : (e : ℕ) → is_affine m A e ≡ false
    none_affine e = or_from _ _ (none_constrains e (length A.blocks)) (or_from false _ refl (no_function firms e))

-- A market breaks no rule of ownership, and what its annotation names is there.
use Rattle.std.proofs.Common.{◌≡◌, ◌≢◌, ◌⊎◌, inl, inr, ℕ, zero, suc, ◌+◌, ◌-◌, ◌<◌, ◌≤◌, Bool, true, false, ◌&&◌, not, nat_eq, [], ◌∷◌, All, length, Option, Some, None, arith, refl, sym, ap, subst, ◌∙◌}
use Rattle.std.proofs.lemmas.Bool.{or_from, or_left, or_right, eq-eqb, ne_eqb, lt-leb, cases_eq, cases_lt, and_left}
use Rattle.std.proofs.lemmas.List.Elements.{All-cons}
use Rattle.emp_ast.specs.declared.tree.VarId.{VarId}
use Rattle.emp_ast.specs.declared.tree.EquId.{EquId}
use Rattle.emp_ast.specs.declared.model.Sense.{Sense}
use Rattle.emp_ast.specs.declared.model.Model.{Model}
use Rattle.emp_ast.specs.declared.annot.Annot.{Annot}
use Rattle.emp_ast.specs.Parties.{names_variable, names_equation, block_variables, listed_equations, functions, some_block_owns}
use Rattle.emp_owner.specs.Rules.{variable_times, equation_times, is_twice, owners_of, is_listed, is_function, listings, unowned, owned_twice, equation_twice, equation_left, vi_relation}
use Rattle.emp_owner.specs.Settled.{IsKept}
use Rattle.emp_problem.specs.Class.{BlockFits, GoalFits, AnnotFits}
use Rattle.emp_meaning.proofs.TieLists.{one_if, count_cons}
use Rattle.emp_make.specs.Markets.{firm_block, IsMarketAnnot}
use Rattle.emp_market.proofs.AcceptLists.{listed, listed_is, any_none, any_some, count_one}

-- ---- the annotation of a market
abbrev pub annot_of : ℕ → Annot
annot_of firms = record { bilevel = false; leader = []; blocks = listed (firm_block firms) 0 firms; duals = []; visols = []; implicits = [] }

pub annot_is : (firms : ℕ) (a : Annot) → IsMarketAnnot firms a → a ≡ annot_of firms
annot_is firms a h =
    let blocks : a.blocks ≡ listed (firm_block firms) 0 firms = listed_is (firm_block firms) a.blocks 0 firms h.count (λ k l. let same : k ≡ 0 + k = omega arith in h.blocks k l ∙ ap (λ j. Some (firm_block firms j)) same) in
    λ i. record { bilevel = h.bilevel i; leader = h.leader i; blocks = blocks i; duals = h.duals i; visols = h.visols i; implicits = h.implicits i }

-- ---- variables
abbrev owned_by : ℕ → ℕ → ℕ → Bool
owned_by firms v k = names_variable (block_variables (firm_block firms k)) v

-- one firm owns the variable
record Owner (firms v : ℕ) : Type 0 where
  at : ℕ
  below : at < firms
  owns : owned_by firms v at ≡ true
  others : (j : ℕ) → j < firms → j ≢ at → owned_by firms v j ≡ false

owner_of : (firms v : ℕ) → v < firms + firms → Owner firms v
owner_of firms v l = go (cases_lt v firms)
  where
    go : (v < firms) ⊎ (firms ≤ v) → Owner firms v
    go (inl b) = record {
      at = v;
      below = b;
      owns = or_left (nat_eq v v) _ (eq-eqb v v refl);
      others = λ j m ne. or_from _ _ (ne_eqb j v ne) (or_from _ _ (ne_eqb (firms + j) v (λ e. omega arith)) refl);
    }
    go (inr b) = record {
      at = v - firms;
      below = omega arith;
      owns = or_right (nat_eq (v - firms) v) _ (or_left (nat_eq (firms + (v - firms)) v) _ (eq-eqb (firms + (v - firms)) v (omega arith)));
      others = λ j m ne. or_from _ _ (ne_eqb j v (λ e. omega arith)) (or_from _ _ (ne_eqb (firms + j) v (λ e. ne (omega arith))) refl);
    }

owners_one : (firms v : ℕ) → v < firms + firms → owners_of (annot_of firms) v ≡ 1
owners_one firms v l =
    let o = owner_of firms v l in
    count_one (λ b. names_variable (block_variables b) v) (firm_block firms) 0 firms o.at (omega arith) (omega (arith, o.below)) o.owns (λ j a b ne. o.others j (omega arith) ne)

some_owns : (firms v : ℕ) → v < firms + firms → some_block_owns (annot_of firms) v ≡ true
some_owns firms v l =
    let o = owner_of firms v l in
    any_some (λ b. names_variable (block_variables b) v) (firm_block firms) 0 firms o.at (omega arith) (omega (arith, o.below)) o.owns

-- ---- numbers that are listed once
few : (n : ℕ) → n < 2 → is_twice n ≡ false
few n l = lt-leb 2 n l

one_at_most : (b : Bool) → one_if b ≤ 1
one_at_most true = omega arith
one_at_most false = omega arith

listed_once : (firms v k : ℕ) → k < firms → is_twice (variable_times v (block_variables (firm_block firms k))) ≡ false
listed_once firms v k l =
    let x : VarId = record { at = k } in
    let y : VarId = record { at = firms + k } in
    let first = count_cons (λ (z : VarId). nat_eq z.at v) x (y ∷ []) in
    let second = count_cons (λ (z : VarId). nat_eq z.at v) y [] in
    few _ (go (cases_eq k v) first second)
  where
    go : (k ≡ v) ⊎ (k ≡ v → ⊥) → variable_times v (block_variables (firm_block firms k)) ≡ one_if (nat_eq k v) + variable_times v (record { at = firms + k } ∷ []) → variable_times v (record { at = firms + k } ∷ []) ≡ one_if (nat_eq (firms + k) v) + 0 → variable_times v (block_variables (firm_block firms k)) < 2
    go (inl e) first second =
        let none : one_if (nat_eq (firms + k) v) ≡ 0 = ap one_if (ne_eqb (firms + k) v (λ s. omega arith)) in
        let one = one_at_most (nat_eq k v) in
        omega (arith, first, second, none, one)
    go (inr ne) first second =
        let none : one_if (nat_eq k v) ≡ 0 = ap one_if (ne_eqb k v ne) in
        let one = one_at_most (nat_eq (firms + k) v) in
        omega (arith, first, second, none, one)

-- ---- equations
one_equation : (firms e k : ℕ) → is_twice (equation_times e (listed_equations (firm_block firms k))) ≡ false
one_equation firms e k =
    let x : EquId = record { at = k } in
    let c = count_cons (λ (z : EquId). nat_eq z.at e) x [] in
    let one = one_at_most (nat_eq k e) in
    few _ (omega (arith, c, one))

some_lists : (firms e : ℕ) → e < firms → is_listed (annot_of firms) e ≡ true
some_lists firms e l = any_some (λ b. names_equation (listed_equations b) e) (firm_block firms) 0 firms e (omega arith) (omega arith) (or_left (nat_eq e e) false (eq-eqb e e refl))

pub no_function : (firms e : ℕ) → is_function (annot_of firms) e ≡ false
no_function firms e = any_none (λ b. names_equation (functions b) e) (firm_block firms) 0 firms (λ k l m. refl)

-- ---- the twelve rules
module _ (m : Model) (firms : ℕ) (variables : length m.variables ≡ firms + firms) (equations : length m.equations ≡ firms) where
  owned : (v : ℕ) → v < length m.variables → unowned (annot_of firms) v ≡ false
  owned v l = ap (λ b. not false && not b && not false) (some_owns firms v (omega arith))

  once : (v : ℕ) → v < length m.variables → owned_twice m (annot_of firms) v ≡ false
  once v l =
      let one = owners_one firms v (omega arith) in
      or_from _ _
      (or_from _ _ (few (0 + owners_of (annot_of firms) v + 0) (omega arith))
      (any_none (λ b. is_twice (variable_times v (block_variables b))) (firm_block firms) 0 firms (λ k a b. listed_once firms v k (omega arith))))
      refl

  equation_once : (e : ℕ) → e < length m.equations → equation_twice (annot_of firms) e ≡ false
  equation_once e l =
      or_from _ _
      (or_from _ _
      (or_from _ _ (any_none (λ b. is_twice (equation_times e (listed_equations b))) (firm_block firms) 0 firms (λ k a b. one_equation firms e k)) (and_left (is_function (annot_of firms) e) (is_twice (listings (annot_of firms) e)) (no_function firms e)))
      refl)
      refl

  none_left : (e : ℕ) → e < length m.equations → equation_left (annot_of firms) e ≡ false
  none_left e l = ap (λ b. not false && not b && not false) (some_lists firms e (omega arith))

  no_upper : (e : ℕ) → e < length m.equations → vi_relation m (annot_of firms) e ≡ false
  no_upper e l = and_left _ _ (no_function firms e)

  pub is_kept : IsKept m (annot_of firms)
  is_kept = (((((((((((refl, owned), once), equation_once), none_left), no_upper), λ e l. refl), λ e l. refl), λ e l. refl), λ v l. refl), λ v l. refl), λ e l. refl)

  -- ---- the numbers that the annotation names
  blocks_fit : (at n : ℕ) → at + n ≡ firms → All (BlockFits (length m.variables) (length m.equations)) (listed (firm_block firms) at n)
  blocks_fit at zero e = λ k d l. absurd (omega arith)
  blocks_fit at (suc n) e =
      All-cons (BlockFits (length m.variables) (length m.equations)) (firm_block firms at) (listed (firm_block firms) (suc at) n)
      (omega arith, All-cons (λ v. v.at < length m.variables) (record { at = firms + at }) [] (omega arith) (λ k d l. absurd (omega arith)), All-cons (λ e. e.at < length m.equations) (record { at = at }) [] (omega arith) (λ k d l. absurd (omega arith)))
      (blocks_fit (suc at) n (omega arith))

  pub annot_fits : AnnotFits m (annot_of firms)
  annot_fits = record {
    leader = λ k d l. absurd (omega arith);
    blocks = blocks_fit 0 firms (omega arith);
    duals = λ k d l. absurd (omega arith);
    visols = λ k d l. absurd (omega arith);
    implicits = λ k d l. absurd (omega arith);
  }

pub goal_fits : (m : Model) → m.goal ≡ None → GoalFits m
goal_fits m none = subst (λ (g : Option (Sense × VarId)). GoalFits (record { name = m.name; variables = m.variables; equations = m.equations; goal = g })) (sym none) tt

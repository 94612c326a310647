-- The rules of ownership and the affine equations of a model whose terms are set apart.
use Rattle.std.proofs.Common.{◌≡◌, ◌⊎◌, inl, inr, ℕ, ◌+◌, ◌<◌, max, Bool, true, false, ◌&&◌, ◌||◌, not, cond, List, [], ◌++◌, length, Option, Some, None, arith, refl, sym, ap, ap₂, ◌∙◌}
use Rattle.std.proofs.lemmas.Bool.{cases_Bool}
use Rattle.std.proofs.lemmas.List.{append-nil}
use Rattle.emp_ast.specs.declared.tree.EquId.{EquId}
use Rattle.emp_ast.specs.declared.model.Sense.{Sense}
use Rattle.emp_ast.specs.declared.model.Model.{Model}
use Rattle.emp_ast.specs.Parties.{leader, block, names_equation, is_goal, all_equations, some_block_has, defines, defines_by, can_define, has_alone, objective, is_constraint}
use Rattle.emp_owner.specs.Rules.{variable_times, equation_times, is_twice, own_namings, dual_namings, owned_twice, equation_twice}
use Rattle.emp_owner.specs.Settled.{IsKept}
use Rattle.emp_owner.proofs.Defining.{number_there, named_passing}
use Rattle.emp_problem.specs.Class.{is_affine}
use Rattle.emp_disj.specs.Choice.{terms, apart}
use Rattle.emp_disj.specs.Owned.{twice, IsOwned, OwnersAreTwo, AllButDefinition}
use Rattle.emp_disj.proofs.Choosing.{has_term}

-- ---- owners
module _ (m : Model) (ds : List (List EquId)) where
  twice_is : (e : ℕ) → equation_twice (apart ds) e ≡ twice ds e
  twice_is e = go (is_twice (equation_times e (terms ds)))
    where
      go : (b : Bool) → (b || false) || false || false || false ≡ b
      go true = refl
      go false = refl

  owned_once : (v : ℕ) → owned_twice m (apart ds) v ≡ false
  owned_once v = go (is_goal m v)
    where
      go : (b : Bool) → is_twice (cond b (max 1 (variable_times v [])) (variable_times v []) + own_namings (apart ds) v + dual_namings (apart ds) v) || false || false ≡ false
      go true = refl
      go false = refl

  kept : IsOwned m ds → IsKept m (apart ds)
  kept h = (((((((((((h.goal, λ v l. refl), λ v l. owned_once v), λ e l. twice_is e ∙ h.once e l), λ e l. refl), λ e l. refl), λ e l. refl), λ e l. refl), λ e l. refl), λ v l. refl), λ v l. refl), λ e l. refl)

  owned : IsKept m (apart ds) → IsOwned m ds
  owned h = record { goal = h.0.0.0.0.0.0.0.0.0.0.0; once = λ e l. sym (twice_is e) ∙ h.0.0.0.0.0.0.0.0.1 e l }

  -- ---- affine equations
  first_only : (b c : Bool) → (b || false) || (c || false) ≡ (b || c)
  first_only true c = refl
  first_only false true = refl
  first_only false false = refl

  term_constrains : (e : ℕ) → is_constraint m (apart ds) (block 0) e ≡ names_equation (terms ds) e
  term_constrains e = go (names_equation (terms ds ++ []) e) ∙ ap (λ (es : List EquId). names_equation es e) (append-nil (terms ds))
    where
      go : (b : Bool) → b && true && true ≡ b
      go true = refl
      go false = refl

  leader_constrains : (e : ℕ) → e < length m.equations → is_constraint m (apart ds) leader e ≡ (not (names_equation (terms ds) e) && not (defines m (apart ds) leader e))
  leader_constrains e l =
      ap (λ b. b && not (defines m (apart ds) leader e) && true) (named_passing e (λ x. not (some_block_has (apart ds) x)) (all_equations 0 m.equations) ∙ ap₂ (λ b c. b && not c) (number_there e 0 m.equations (omega arith) (omega (arith, l))) (has_term m ds e))
      ∙ go (not (names_equation (terms ds) e)) (not (defines m (apart ds) leader e))
    where
      go : (b c : Bool) → b && c && true ≡ (b && c)
      go true true = refl
      go true false = refl
      go false c = refl

  -- what is a term defines nothing
  term_defines_none : (e : ℕ) → names_equation (terms ds) e ≡ true → defines m (apart ds) leader e ≡ false
  term_defines_none e h = go (objective m (apart ds) leader)
    where
      not_alone : has_alone m (apart ds) leader e ≡ false
      not_alone = named_passing e (λ x. not (some_block_has (apart ds) x)) (all_equations 0 m.equations) ∙ (ap (λ b. names_equation (all_equations 0 m.equations) e && not b) (has_term m ds e ∙ h) ∙ last (names_equation (all_equations 0 m.equations) e))
        where
          last : (b : Bool) → (b && false) ≡ false
          last true = refl
          last false = refl

      go : (o : Option (Sense × ℕ)) → defines_by m (apart ds) leader e o ≡ false
      go None = refl
      go (Some w) = ap (λ b. can_define m (apart ds) e w.1 && b) not_alone ∙ last (can_define m (apart ds) e w.1)
        where
          last : (b : Bool) → (b && false) ≡ false
          last true = refl
          last false = refl

  affine : (e : ℕ) → e < length m.equations → is_affine m (apart ds) e ≡ not (defines m (apart ds) leader e)
  affine e l =
      first_only (is_constraint m (apart ds) (block 0) e) (is_constraint m (apart ds) leader e)
      ∙ (ap₂ (λ b c. b || c) (term_constrains e) (leader_constrains e l)
      ∙ go (cases_Bool (names_equation (terms ds) e)))
    where
      go : (names_equation (terms ds) e ≡ true) ⊎ (names_equation (terms ds) e ≡ false) → (names_equation (terms ds) e || (not (names_equation (terms ds) e) && not (defines m (apart ds) leader e))) ≡ not (defines m (apart ds) leader e)
      go (inl h) = ap (λ b. b || (not b && not (defines m (apart ds) leader e))) h ∙ sym (ap not (term_defines_none e h))
      go (inr h) = ap (λ b. b || (not b && not (defines m (apart ds) leader e))) h

-- ---- the laws
pub owners_are_two : OwnersAreTwo
owners_are_two m ds = (kept m ds, owned m ds)

pub all_but_definition : AllButDefinition
all_but_definition m ds e l = affine m ds e l

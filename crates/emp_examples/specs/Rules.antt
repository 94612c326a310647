-- The rules of ownership: for each a small annotation that breaks it and one that keeps it. The model is
-- d.. c =e= x*x, k.. x =g= 1, f.. y =l= 0 over the variables c, x, y, u.
use Rattle.std.specs.Prelude.{◌≡◌, true, false, List, [], ◌∷◌}
use Rattle.emp_ast.specs.declared.tree.EquId.{EquId}
use Rattle.emp_ast.specs.declared.model.Relation.TheVariants.{AtLeast, AtMost, Nothing}
use Rattle.emp_ast.specs.declared.model.Sense.TheVariants.{Min}
use Rattle.emp_ast.specs.declared.model.Variable.{Variable}
use Rattle.emp_ast.specs.declared.model.Model.{Model}
use Rattle.emp_ast.specs.declared.annot.Block.{Block}
use Rattle.emp_ast.specs.declared.annot.Block.TheVariants.{Agent, Vi}
use Rattle.emp_ast.specs.declared.annot.Annot.{Annot}
use Rattle.emp_ast.specs.Expression.{variable}
use Rattle.emp_owner.specs.Rules.{leader_missing, unowned, owned_twice, equation_twice, equation_left, vi_relation, not_constraint, dual_shared, dual_twice, dual_bound, implicit_use, implicit_relation}
use Rattle.emp_examples.specs.Small.{numeral, equation, free, from, up_to, var, equ, model, equilibrium, bilevel, with_goal, with_duals, with_visols, with_implicits}
use Rattle.emp_examples.specs.Parties.{c_is_square}

abbrev pub four : Variable → Model
four u = model (free ∷ free ∷ free ∷ u ∷ []) (c_is_square ∷ equation (variable 1) AtLeast (numeral 1) ∷ equation (variable 2) AtMost (numeral 0) ∷ [])

-- `min c x d k`
abbrev pub agent : Block
agent = Agent Min (var 0) (var 1 ∷ []) (equ 0 ∷ equ 1 ∷ [])

-- `vi y` with equations
abbrev pub idle : List EquId → Block
idle equs = Vi (var 2 ∷ []) [] equs

abbrev pub priced : Annot
priced = with_duals ((var 3, equ 1) ∷ []) (equilibrium (agent ∷ idle [] ∷ []))

pub record ExamplesOfRules : Type 0 where
  -- a bilevel file with an objective, without one, and an equilibrium file without one
  pub leads : leader_missing (with_goal Min 0 (four free)) (bilevel [] []) ≡ false
  pub leads_not : leader_missing (four free) (bilevel [] []) ≡ true
  pub no_leader : leader_missing (four free) priced ≡ false
  -- u is a dual variable, or in no block and none
  pub dual_owned : unowned priced 3 ≡ false
  pub dual_unowned : unowned (with_duals [] priced) 3 ≡ true
  pub leader_owned : unowned (bilevel [] []) 3 ≡ false
  -- x once; in a block and a dual variable; in two blocks; twice in one; in two blocks as an implicit variable; in two pairs
  pub owned_once : owned_twice (four free) priced 1 ≡ false
  pub own_and_dual : owned_twice (four free) (with_duals ((var 1, equ 1) ∷ []) priced) 1 ≡ true
  pub in_two : owned_twice (four free) (equilibrium (agent ∷ Vi (var 1 ∷ []) [] [] ∷ [])) 1 ≡ true
  pub in_one_twice : owned_twice (four free) (equilibrium (Agent Min (var 0) (var 1 ∷ var 1 ∷ []) [] ∷ [])) 1 ≡ true
  pub objective_listed : owned_twice (four free) (equilibrium (Agent Min (var 0) (var 0 ∷ []) [] ∷ [])) 0 ≡ true
  pub implicit_in_two : owned_twice (four free) (with_implicits ((var 1, equ 2) ∷ []) (equilibrium (agent ∷ Vi (var 1 ∷ []) [] [] ∷ []))) 1 ≡ false
  pub two_pairs : owned_twice (four free) (with_implicits ((var 1, equ 2) ∷ (var 1, equ 1) ∷ []) (equilibrium (agent ∷ []))) 1 ≡ true
  -- the solve objective listed once after `bilevel`, listed twice, and owned by a block
  pub goal_listed : owned_twice (with_goal Min 0 (four free)) (bilevel (var 0 ∷ []) []) 0 ≡ false
  pub goal_listed_twice : owned_twice (with_goal Min 0 (four free)) (bilevel (var 0 ∷ var 0 ∷ []) []) 0 ≡ true
  pub goal_in_block : owned_twice (with_goal Min 0 (four free)) (bilevel [] (agent ∷ [])) 0 ≡ true
  pub goal_without_leader : owned_twice (with_goal Min 0 (four free)) priced 0 ≡ false
  -- u the dual variable of two equations
  pub two_equations : owned_twice (four free) (with_duals ((var 3, equ 1) ∷ (var 3, equ 2) ∷ []) priced) 3 ≡ true
  -- k once; in two blocks; twice in one; a function and listed by another block; implicit and listed
  pub listed_once : equation_twice priced 1 ≡ false
  pub listed_by_two : equation_twice (equilibrium (agent ∷ idle (equ 1 ∷ []) ∷ [])) 1 ≡ false
  pub listed_twice : equation_twice (equilibrium (idle (equ 1 ∷ equ 1 ∷ []) ∷ [])) 1 ≡ true
  pub function_listed : equation_twice (equilibrium (agent ∷ Vi [] ((equ 1, var 2) ∷ []) [] ∷ [])) 1 ≡ true
  pub implicit_listed : equation_twice (with_implicits ((var 1, equ 1) ∷ []) priced) 1 ≡ true
  pub two_implicits : equation_twice (with_implicits ((var 1, equ 2) ∷ (var 2, equ 2) ∷ []) (equilibrium (agent ∷ idle [] ∷ []))) 2 ≡ true
  -- f in no block, in an implicit pair, and in a bilevel file
  pub left : equation_left priced 2 ≡ true
  pub tied : equation_left (with_implicits ((var 1, equ 2) ∷ []) priced) 2 ≡ false
  pub to_leader : equation_left (bilevel [] []) 2 ≡ false
  -- a function with `=L=` and with `=G=`
  pub upper_function : vi_relation (four free) (equilibrium (Vi [] ((equ 2, var 2) ∷ []) [] ∷ [])) 2 ≡ true
  pub lower_function : vi_relation (four free) (equilibrium (Vi [] ((equ 1, var 2) ∷ []) [] ∷ [])) 1 ≡ false
  -- a dual variable of the constraint k, of the definition d, and `visol` of a function
  pub of_constraint : not_constraint (four free) priced 1 ≡ false
  pub of_definition : not_constraint (four free) (with_duals ((var 3, equ 0) ∷ []) priced) 0 ≡ true
  pub of_function : not_constraint (four free) (with_visols (equ 1 ∷ []) (equilibrium (Vi [] ((equ 1, var 2) ∷ []) [] ∷ []))) 1 ≡ true
  -- k priced in two blocks, without `visol` and with it
  pub shared : dual_shared (four free) (with_duals ((var 3, equ 1) ∷ []) (equilibrium (agent ∷ idle (equ 1 ∷ []) ∷ []))) 1 ≡ true
  pub solved_together : dual_shared (four free) (with_visols (equ 1 ∷ []) (with_duals ((var 3, equ 1) ∷ []) (equilibrium (agent ∷ idle (equ 1 ∷ []) ∷ [])))) 1 ≡ false
  -- two dual variables of k
  pub two_duals : dual_twice (with_duals ((var 3, equ 1) ∷ (var 2, equ 1) ∷ []) priced) 1 ≡ true
  pub one_dual : dual_twice priced 1 ≡ false
  -- of k.. x =g= 1: u.lo = 0 is implied, u.lo = 1 and u.up = 0 are not; of f.. y =l= 0: u.up = 0 is implied
  pub low_implied : dual_bound (four (from 0)) priced 3 ≡ false
  pub low_above : dual_bound (four (from 1)) priced 3 ≡ true
  pub high_of_lower : dual_bound (four (up_to 0)) priced 3 ≡ true
  pub high_implied : dual_bound (four (up_to 0)) (with_duals ((var 3, equ 2) ∷ []) priced) 3 ≡ false
  pub low_of_upper : dual_bound (four (from 0)) (with_duals ((var 3, equ 2) ∷ []) priced) 3 ≡ true
  pub low_of_equality : dual_bound (four (from 0)) (with_duals ((var 3, equ 0) ∷ []) priced) 3 ≡ true
  -- of k.. x =n= 1: u.lo = 0 and u.up = 0 are implied
  pub low_of_nothing : dual_bound (model (free ∷ free ∷ free ∷ from 0 ∷ []) (c_is_square ∷ equation (variable 1) Nothing (numeral 1) ∷ [])) priced 3 ≡ false
  pub high_of_nothing : dual_bound (model (free ∷ free ∷ free ∷ up_to 0 ∷ []) (c_is_square ∷ equation (variable 1) Nothing (numeral 1) ∷ [])) priced 3 ≡ false
  -- an implicit x that a block lists; an implicit u that none lists; an implicit objective; an implicit paired y
  pub plain_use : implicit_use (four free) (with_implicits ((var 1, equ 2) ∷ []) (equilibrium (agent ∷ []))) 1 ≡ false
  pub not_listed : implicit_use (four free) (with_implicits ((var 3, equ 2) ∷ []) (equilibrium (agent ∷ []))) 3 ≡ true
  pub implicit_objective : implicit_use (four free) (with_implicits ((var 0, equ 2) ∷ []) (equilibrium (agent ∷ []))) 0 ≡ true
  pub implicit_paired : implicit_use (four free) (with_implicits ((var 2, equ 2) ∷ []) (equilibrium (Vi [] ((equ 1, var 2) ∷ []) [] ∷ []))) 2 ≡ true
  -- an implicit x that is a leader's, or a dual variable
  pub implicit_leader : implicit_use (four free) (with_implicits ((var 1, equ 2) ∷ []) (bilevel (var 1 ∷ []) (agent ∷ []))) 1 ≡ true
  pub implicit_dual : implicit_use (four free) (with_implicits ((var 1, equ 2) ∷ []) (with_duals ((var 1, equ 1) ∷ []) (equilibrium (agent ∷ [])))) 1 ≡ true
  -- the equation of an implicit pair with `=L=` and with `=E=`
  pub no_tie : implicit_relation (four free) (with_implicits ((var 1, equ 2) ∷ []) (equilibrium (agent ∷ []))) 2 ≡ true
  pub tie : implicit_relation (four free) (with_implicits ((var 1, equ 0) ∷ []) (equilibrium (agent ∷ []))) 0 ≡ false

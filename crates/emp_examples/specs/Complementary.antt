-- Complementarity models.
use Rattle.std.specs.Prelude.{◌≡◌, ℕ, pos, [], ◌∷◌}
use Rattle.emp_num.specs.Whole.{whole}
use Rattle.emp_ast.specs.declared.model.Relation.TheVariants.{Equal, AtLeast}
use Rattle.emp_ast.specs.declared.model.End.TheVariants.{At}
use Rattle.emp_ast.specs.declared.model.Variable.{Variable}
use Rattle.emp_ast.specs.declared.model.Model.{Model}
use Rattle.emp_ast.specs.declared.annot.Block.TheVariants.{Vi}
use Rattle.emp_ast.specs.Expression.{Expression, variable}
use Rattle.emp_mcp.specs.Complementary.{Match, IsComplementary}
use Rattle.emp_mcp.specs.Target.{IsTarget, target_annot}
use Rattle.emp_mcp.specs.Faults.{AreUnbroken, IsFirstFault, matched_twice, unmatched}
use Rattle.emp_examples.specs.Small.{sum, numeral, equation, free, from, var, equ, model, equilibrium, whole_point}

abbrev pub within : ℕ → ℕ → Variable
within low high = record { name = []; low = At (whole low); high = At (whole high) }

-- ---- f.x alone, with `f.. left =g= right`
abbrev pub one_match : Match
one_match = (equ 0, var 0)

abbrev pub single : Variable → Expression → Expression → Model
single x left right = model (x ∷ []) (equation left AtLeast right ∷ [])

pub record ExamplesOfComplementary : Type 0 where
  -- x from 0, `f.. x + 1 =g= 0`: f is 1 at 0
  pub rising : IsComplementary (single (from 0) (sum (variable 0) (numeral 1)) (numeral 0)) (one_match ∷ []) (whole_point (pos 0 ∷ []))
  pub not_rising_at_one : IsComplementary (single (from 0) (sum (variable 0) (numeral 1)) (numeral 0)) (one_match ∷ []) (whole_point (pos 1 ∷ [])) → ⊥
  -- the sides exchanged: f is -1 at 0
  pub not_exchanged : IsComplementary (single (from 0) (numeral 0) (sum (variable 0) (numeral 1))) (one_match ∷ []) (whole_point (pos 0 ∷ [])) → ⊥
  -- x from 0 to 1, `f.. x =g= 2`: f is -1 at the upper bound, and -2 at the lower one
  pub at_upper : IsComplementary (single (within 0 1) (variable 0) (numeral 2)) (one_match ∷ []) (whole_point (pos 1 ∷ []))
  pub not_at_lower : IsComplementary (single (within 0 1) (variable 0) (numeral 2)) (one_match ∷ []) (whole_point (pos 0 ∷ [])) → ⊥
  -- the same with x from 0 to 4: f is 0 at 2, and 1 at 3
  pub between : IsComplementary (single (within 0 4) (variable 0) (numeral 2)) (one_match ∷ []) (whole_point (pos 2 ∷ []))
  pub not_between : IsComplementary (single (within 0 4) (variable 0) (numeral 2)) (one_match ∷ []) (whole_point (pos 3 ∷ [])) → ⊥
  -- 2 is beyond the bounds
  pub not_beyond : IsComplementary (single (within 0 1) (variable 0) (numeral 2)) (one_match ∷ []) (whole_point (pos 2 ∷ [])) → ⊥

-- ---- variables z, y, x with y fixed at 1; `h.. z =e= 7` in no match, `f.. x + y =e= 3` matched with x
abbrev pub wide_model : Variable → Model
wide_model y = model (free ∷ y ∷ free ∷ []) (equation (variable 0) Equal (numeral 7) ∷ equation (sum (variable 2) (variable 1)) Equal (numeral 3) ∷ [])

abbrev pub matched_x : Match
matched_x = (equ 1, var 2)

pub record ExamplesOfTargets : Type 0 where
  -- y and x, and f, with their new numbers
  pub target : IsTarget (wide_model (within 1 1)) (matched_x ∷ []) (model (within 1 1 ∷ free ∷ []) (equation (sum (variable 1) (variable 0)) Equal (numeral 3) ∷ []))
  pub not_old_numbers : IsTarget (wide_model (within 1 1)) (matched_x ∷ []) (model (within 1 1 ∷ free ∷ []) (equation (sum (variable 2) (variable 1)) Equal (numeral 3) ∷ [])) → ⊥
  -- `vi y f x`, in which y has function zero
  pub annot : target_annot (wide_model (within 1 1)) (matched_x ∷ []) ≡ equilibrium (Vi (var 0 ∷ []) ((equ 0, var 1) ∷ []) [] ∷ [])
  pub not_a_function : target_annot (wide_model (within 1 1)) (matched_x ∷ []) ≡ equilibrium (Vi [] ((equ 0, var 0) ∷ (equ 0, var 1) ∷ []) [] ∷ []) → ⊥
  -- h is not asked for
  pub complementary : IsComplementary (wide_model (within 1 1)) (matched_x ∷ []) (whole_point (pos 0 ∷ pos 1 ∷ pos 2 ∷ []))
  -- y has its bounds
  pub not_off_bound : IsComplementary (wide_model (within 1 1)) (matched_x ∷ []) (whole_point (pos 0 ∷ pos 2 ∷ pos 1 ∷ [])) → ⊥
  -- the rules
  pub unbroken : AreUnbroken (wide_model (within 1 1)) (matched_x ∷ [])
  pub loose : IsFirstFault (wide_model free) (matched_x ∷ []) (unmatched 1)
  pub not_unbroken : AreUnbroken (wide_model free) (matched_x ∷ []) → ⊥
  pub twice : IsFirstFault (wide_model free) (matched_x ∷ (equ 0, var 2) ∷ []) (matched_twice 2)

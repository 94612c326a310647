-- What the layers above know of model texts.
use Rattle.std.specs.Prelude.{◌≡◌, ◌⊎◌, ℕ, List}
use Rattle.emp_ast.specs.declared.model.Model.{Model}
use Rattle.gms_grammar.specs.declared.fault.ModelFault.{ModelFault}
use Rattle.gms_read.specs.Texts.{IsModelText, HasFault}

-- each text stands for a model or has a fault, one of them, and not both
pub record OneModel : Type 0 where
  pub some : (text : List ℕ) → ((m : Model) × IsModelText text m) ⊎ ((f : ModelFault) × HasFault text f)
  pub one : (text : List ℕ) (m n : Model) → IsModelText text m → IsModelText text n → m ≡ n
  pub one_fault : (text : List ℕ) (f g : ModelFault) → HasFault text f → HasFault text g → f ≡ g
  pub not_both : (text : List ℕ) (m : Model) (f : ModelFault) → IsModelText text m → HasFault text f → ⊥

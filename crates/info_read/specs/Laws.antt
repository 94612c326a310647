-- What the layers above know of annotations.
use Rattle.std.specs.Prelude.{◌≡◌, ◌⊎◌, ℕ, ◌<◌, List, [], length, slice_index_or}
use Rattle.emp_list.specs.Case.{SameName}
use Rattle.emp_ast.specs.declared.model.Model.{Model}
use Rattle.emp_ast.specs.declared.annot.Annot.{Annot}
use Rattle.emp_ast.specs.Names.{variable_names, equation_names}
use Rattle.info_read.specs.declared.fault.InfoFault.{InfoFault}
use Rattle.info_read.specs.Texts.{IsInfoText, HasInfoFault}

-- no two of the names are the same
abbrev pub AreDistinct : List (List ℕ) → Type 0
AreDistinct names = (j k : ℕ) → j < length names → k < length names → SameName (slice_index_or names j []) (slice_index_or names k []) → j ≡ k

pub record HasDistinctNames (m : Model) : Type 0 where
  pub variables : AreDistinct (variable_names m)
  pub equations : AreDistinct (equation_names m)

-- each text stands for an annotation of the model or has a first fault, one of them; in a model of distinct names there is
-- one such annotation or fault, and not both
pub record OneAnnotation : Type 0 where
  pub some : (text : List ℕ) (m : Model) → ((a : Annot) × IsInfoText text m a) ⊎ ((f : InfoFault) × HasInfoFault text m f)
  pub one : (text : List ℕ) (m : Model) (a b : Annot) → HasDistinctNames m → IsInfoText text m a → IsInfoText text m b → a ≡ b
  pub one_fault : (text : List ℕ) (m : Model) (f g : InfoFault) → HasDistinctNames m → HasInfoFault text m f → HasInfoFault text m g → f ≡ g
  pub not_both : (text : List ℕ) (m : Model) (a : Annot) (f : InfoFault) → HasDistinctNames m → IsInfoText text m a → HasInfoFault text m f → ⊥

-- The annotations that are printed.
use Rattle.std.specs.Prelude.{ℕ, List}
use Rattle.emp_ast.specs.declared.model.Model.{Model}
use Rattle.emp_ast.specs.declared.annot.Annot.{Annot}
use Rattle.info_read.specs.Texts.{IsInfoText}

-- some text stands for the annotation of the model
pub record HasInfoText (m : Model) (a : Annot) : Type 0 where
  pub text : List ℕ
  pub is : IsInfoText text m a

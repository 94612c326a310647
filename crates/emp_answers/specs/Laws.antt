-- The numbers that texts name, as statements.
use Rattle.std.specs.Prelude.{ℕ, List}
use Rattle.emp_ast.specs.declared.model.Model.{Model}
use Rattle.emp_ast.specs.declared.annot.Annot.{Annot}
use Rattle.info_read.specs.Texts.{IsInfoText}
use Rattle.gms_print.specs.ReadsBack.{HasText}
use Rattle.emp_problem.specs.Class.{AnnotFits, GoalFits}

-- a text of an annotation names variables and equations of the model
abbrev pub AnnotationsFit : Type 0
AnnotationsFit = (text : List ℕ) (m : Model) (a : Annot) → IsInfoText text m a → AnnotFits m a

-- a model that some text stands for has a variable for its objective
abbrev pub GoalsFit : Type 0
GoalsFit = (m : Model) → HasText m → GoalFits m

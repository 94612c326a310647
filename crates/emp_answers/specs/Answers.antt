-- What is answered over the texts of a request: a status, what is stored, and what is said.
use Rattle.std.specs.Prelude.{◌≡◌, ◌≢◌, ℕ, Bool, true, false, List, [], ◌∷◌, ◌++◌, Some}
use Rattle.emp_command.specs.declared.words.Verb.{Verb}
use Rattle.emp_command.specs.declared.words.Verb.TheVariants.{Solve, Check, Print, Make, Migrate, Pieces}
use Rattle.emp_command.specs.Words.{Asked}
use Rattle.emp_command.specs.Course.{Outcome, refusal}
use Rattle.emp_ast.specs.declared.model.Model.{Model}
use Rattle.emp_ast.specs.declared.annot.Annot.{Annot}
use Rattle.gms_grammar.specs.declared.fault.ModelFault.{ModelFault}
use Rattle.gms_grammar.specs.declared.fault.ModelFault.TheVariants as ModelWords
use Rattle.gms_read.specs.Texts.{IsModelText, RefusesModel}
use Rattle.gms_print.specs.Canonical.{IsCanonical}
use Rattle.info_read.specs.declared.fault.InfoFault.{InfoFault}
use Rattle.info_read.specs.declared.fault.InfoFault.TheVariants as InfoWords
use Rattle.info_read.specs.Texts.{IsInfoText, RefusesInfo}
use Rattle.info_print.specs.Canonical.{info_text}
use Rattle.emp_report.specs.TextLines.{not_yet_line, model_line, info_line}
use Rattle.emp_outcomes.specs.Outcomes.{saying, Solves, Checks, Migrates}

-- ---- what is not built yet
abbrev pub is_built_for : Verb → Bool
is_built_for Solve = true
is_built_for Check = true
is_built_for Print = true
is_built_for Migrate = true
is_built_for Make = true
is_built_for Pieces = false

abbrev pub is_built : Asked → Bool
is_built r = is_built_for r.verb

-- ---- all commands
-- what a verb answers over a model, an annotation of it, and the texts behind them
pub data Does (m : Model) (a : Annot) (r : Asked) : List (List ℕ) → Outcome → Type 0 where
  prints : (t : List ℕ) → r.verb ≡ Print → IsCanonical m t → Does m a r [] (saying 0 (t ++ info_text m a))
  solves : (o : Outcome) → r.verb ≡ Solve → Solves m a r o → Does m a r [] o
  checks : (ct : List ℕ) (o : Outcome) → r.verb ≡ Check → Checks m a ct o → Does m a r (ct ∷ []) o
  migrates : (ct name : List ℕ) (o : Outcome) → r.verb ≡ Migrate → r.output ≡ Some name → Migrates m a ct name o → Does m a r (ct ∷ []) o

pub data Answers (r : Asked) : List (List ℕ) → Outcome → Type 0 where
  unbuilt : (texts : List (List ℕ)) → is_built r ≡ false → Answers r texts (refusal 30 not_yet_line)
  bad_model : (mt it : List ℕ) (rest : List (List ℕ)) (f : ModelFault) → is_built r ≡ true → f ≢ ModelWords.NoMemory → RefusesModel mt f → Answers r (mt ∷ it ∷ rest) (refusal 14 (model_line f))
  bad_info : (mt it : List ℕ) (rest : List (List ℕ)) (m : Model) (f : InfoFault) → is_built r ≡ true → IsModelText mt m → f ≢ InfoWords.NoMemory → RefusesInfo it m f → Answers r (mt ∷ it ∷ rest) (refusal 15 (info_line f))
  done : (mt it : List ℕ) (rest : List (List ℕ)) (m : Model) (a : Annot) (o : Outcome) → is_built r ≡ true → IsModelText mt m → IsInfoText it m a → Does m a r rest o → Answers r (mt ∷ it ∷ rest) o

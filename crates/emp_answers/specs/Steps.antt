-- What an answer over texts comes to, step by step. This serves proofs; no meaning cites it.
use Rattle.std.specs.Prelude.{◌≡◌, ◌≢◌, ℕ, ◌≤◌, List, [], ◌∷◌, ◌++◌, length, Option, None}
use Rattle.emp_command.specs.declared.words.Verb.{Verb}
use Rattle.emp_command.specs.declared.words.Verb.TheVariants.{Solve, Check, Print, Make, Migrate, Pieces}
use Rattle.emp_command.specs.Words.{Asked}
use Rattle.emp_command.specs.Course.{Outcome, refusal}
use Rattle.emp_ast.specs.declared.model.Model.{Model}
use Rattle.emp_ast.specs.declared.annot.Annot.{Annot}
use Rattle.info_read.specs.declared.fault.InfoFault.{InfoFault}
use Rattle.info_read.specs.declared.fault.InfoFault.TheVariants as InfoWords
use Rattle.info_read.specs.Texts.{IsInfoText, RefusesInfo}
use Rattle.emp_report.specs.TextLines.{info_line}
use Rattle.gms_print.specs.Canonical.{IsCanonical}
use Rattle.info_print.specs.Canonical.{info_text}
use Rattle.emp_outcomes.specs.Outcomes.{saying}
use Rattle.emp_answers.specs.Answers.{Does}

-- the canonical texts
pub record Prints (m : Model) (a : Annot) (o : Outcome) : Type 0 where
  pub text : List ℕ
  pub canonical : IsCanonical m text
  pub is : o ≡ saying 0 (text ++ info_text m a)

-- ---- the texts behind the model's and the annotation's; a request of `make` names no texts at all
abbrev pub RestFits : Verb → List (List ℕ) → Type 0
RestFits Solve rest = rest ≡ []
RestFits Print rest = rest ≡ []
RestFits Check rest = (ct : List ℕ) × (rest ≡ ct ∷ []) × (length ct ≤ 16777216)
RestFits Migrate rest = (ct : List ℕ) × (rest ≡ ct ∷ []) × (length ct ≤ 16777216)
RestFits Make rest = ⊥
RestFits Pieces rest = Unit {0}

-- a request to store a certificate anew names a file for it
abbrev pub OutputFits : Verb → Option (List ℕ) → Type 0
OutputFits Migrate None = ⊥
OutputFits v o = Unit {0}

-- what is answered over a model and the text of an annotation
pub data OverInfo (r : Asked) (m : Model) (it : List ℕ) (rest : List (List ℕ)) (o : Outcome) : Type 0 where
  refuses : (f : InfoFault) → f ≢ InfoWords.NoMemory → RefusesInfo it m f → o ≡ refusal 15 (info_line f) → OverInfo r m it rest o
  reads : (a : Annot) → IsInfoText it m a → Does m a r rest o → OverInfo r m it rest o

-- the texts of a request that is built
pub record AreTexts (v : Verb) (texts : List (List ℕ)) : Type 0 where
  pub model : List ℕ
  pub info : List ℕ
  pub rest : List (List ℕ)
  pub are : texts ≡ model ∷ info ∷ rest
  pub model_short : length model ≤ 1048576
  pub info_short : length info ≤ 1048576
  pub fits : RestFits v rest

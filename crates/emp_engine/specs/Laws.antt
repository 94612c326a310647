-- What is answered over texts is one outcome, as a statement.
use Rattle.std.specs.Prelude.{◌≡◌, ◌≢◌, ℕ, List}
use Rattle.emp_command.specs.declared.words.Verb.TheVariants.{Make}
use Rattle.emp_command.specs.Words.{Asked}
use Rattle.emp_command.specs.Course.{Outcome}
use Rattle.emp_engine.specs.Run.{IsAnswer}

-- for each verb but `make`, which reads no text
abbrev pub OneOutcome : Type 0
OneOutcome = (r : Asked) (texts : List (List ℕ)) (o p : Outcome) → r.verb ≢ Make → IsAnswer r texts o → IsAnswer r texts p → o ≡ p

-- What `make` answers: a market is made, its row system is searched with the default work, and its equilibrium is summed up.
use Rattle.std.specs.Prelude.{◌≡◌, ◌≢◌, ℕ, zero, suc, ◌+◌, ◌/◌, ◌<◌, List, [], ◌∷◌, ◌++◌, codes, decimal, Option, Some, None, Result, Ok, Err}
use Rattle.emp_numeral.specs.FracText.{fraction_text}
use Rattle.emp_num.specs.Whole.{whole}
use Rattle.emp_num.specs.declared.frac.Frac.{Frac}
use Rattle.emp_ast.specs.declared.tree.VarId.{VarId}
use Rattle.emp_ast.specs.declared.model.Model.{Model}
use Rattle.emp_ast.specs.declared.annot.Annot.{Annot}
use Rattle.emp_form.specs.Calls.{Formula, given, added, HasWideCall, Runs}
use Rattle.emp_poly.specs.Written.{entry}
use Rattle.emp_command.specs.Words.{Asked, default_work}
use Rattle.emp_command.specs.Course.{Outcome, refusal}
use Rattle.gms_print.specs.Canonical.{IsCanonical}
use Rattle.info_print.specs.Canonical.{info_text}
use Rattle.emp_cert.specs.declared.cert.Found.{Found}
use Rattle.emp_cert.specs.declared.cert.Verdict.TheVariants.{Point}
use Rattle.emp_walk.specs.declared.fault.WalkFault.{WalkFault}
use Rattle.emp_walk.specs.declared.fault.WalkFault.TheVariants as WalkWords
use Rattle.emp_walk.specs.Founds.{CertGives}
use Rattle.emp_solution.specs.declared.state.Stated.{Stated}
use Rattle.emp_solution.specs.Stated.{IsStated}
use Rattle.emp_make.specs.Markets.{IsMarket}
use Rattle.emp_report.specs.ClassLines.{value_line}
use Rattle.emp_outcomes.specs.Outcomes.{Refuses, Fills, IsUnfilled, walk_status, walk_line}

-- ---- sums
-- the values of n variables from number `first` on, added in order to 0
abbrev pub sum_from : List Frac → ℕ → ℕ → Formula
sum_from values first zero = given (whole 0)
sum_from values first (suc n) = added (sum_from values first n) (given (entry values (first + n)))

-- w is the first of these variables whose addition is wide
pub record IsFirstWide (values : List Frac) (first n w : ℕ) : Type 0 where
  pub before : ℕ
  pub is : w ≡ first + before
  pub inside : before < n
  pub narrow : HasWideCall (sum_from values first before) → ⊥
  pub wide : HasWideCall (sum_from values first (before + 1))

abbrev pub SumGives : List Frac → ℕ → ℕ → Result Frac VarId → Type 0
SumGives values first n (Ok sum) = Runs (sum_from values first n) (Ok sum)
SumGives values first n (Err w) = IsFirstWide values first n w.at

-- the variables are pi1 .. piN, q1 .. qN, of N firms
abbrev pub ProfitGives : ℕ → List Frac → Result Frac VarId → Type 0
ProfitGives firms values r = SumGives values 0 firms r

abbrev pub OutputGives : ℕ → List Frac → Result Frac VarId → Type 0
OutputGives firms values r = SumGives values firms firms r

-- ---- what is said and stored
-- two firms make a market, and with an odd count the last is alone
abbrev pub markets : ℕ → ℕ
markets firms = (firms + 1) / 2

abbrev pub count_line : List ℕ → ℕ → List ℕ
count_line word n = word ++ codes " " ++ decimal n ++ codes "\n"

abbrev pub sum_line : List ℕ → Frac → List ℕ
sum_line word f = word ++ codes " " ++ fraction_text f ++ codes "\n"

abbrev pub summary : ℕ → Frac → Frac → List ℕ
summary firms output profit = count_line (codes "firms") firms ++ count_line (codes "markets") (markets firms) ++ sum_line (codes "output") output ++ sum_line (codes "profit") profit

-- the model's text in one file, and the annotation's in another
abbrev pub saves : List ℕ → List ℕ → List ℕ → List (List ℕ × List ℕ)
saves name model_text info_text = (name ++ codes ".gms", model_text) ∷ (name ++ codes ".info", info_text) ∷ []

-- the canonical texts are stored, where the words name files for them
abbrev pub Saves : Model → Annot → Option (List ℕ) → List (List ℕ × List ℕ) → Type 0
Saves m a None stores = stores ≡ []
Saves m a (Some name) stores = (t : List ℕ) × IsCanonical m t × (stores ≡ saves name t (info_text m a))

-- ---- what is answered over the files of a market
-- the search comes to an equilibrium, and these are the values of all variables at it
pub record HasValues (m : Model) (a : Annot) (values : List Frac) : Type 0 where
  pub stated : Stated
  pub is : IsStated m a stated
  pub found : Found
  pub search : CertGives stated.system default_work (Ok found)
  pub point : List Frac
  pub verdict : found.cert.verdict ≡ Point point
  pub fills : Fills m a stated point (Ok values)

pub data SumsUp (m : Model) (a : Annot) (r : Asked) : Outcome → Type 0 where
  refused : (o : Outcome) → Refuses m a o → SumsUp m a r o
  unfinished : (s : Stated) (f : WalkFault) → f ≢ WalkWords.NoMemory → IsStated m a s → CertGives s.system default_work (Err f) → SumsUp m a r (refusal (walk_status f) (walk_line f))
  unfilled : (s : Stated) (f : Found) (w : VarId) → IsStated m a s → CertGives s.system default_work (Ok f) → IsUnfilled m a s f.cert.verdict w → SumsUp m a r (refusal 19 (value_line m w))
  wide_output : (values : List Frac) (w : VarId) → HasValues m a values → OutputGives r.firms values (Err w) → SumsUp m a r (refusal 19 (value_line m w))
  wide_profit : (values : List Frac) (output : Frac) (w : VarId) → HasValues m a values → OutputGives r.firms values (Ok output) → ProfitGives r.firms values (Err w) → SumsUp m a r (refusal 19 (value_line m w))
  made : (values : List Frac) (output profit : Frac) (stores : List (List ℕ × List ℕ)) → HasValues m a values → OutputGives r.firms values (Ok output) → ProfitGives r.firms values (Ok profit) → Saves m a r.output stores → SumsUp m a r (record { status = 0; stores = stores; says = summary r.firms output profit })

-- ---- `make`
pub record Makes (r : Asked) (o : Outcome) : Type 0 where
  pub model : Model
  pub annot : Annot
  pub market : IsMarket r.seed r.firms model annot
  pub sums : SumsUp model annot r o

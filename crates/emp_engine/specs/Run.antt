-- What the clauses of `run` say, by the status that it answers.
use Rattle.std.specs.Prelude.{◌≡◌, ◌≢◌, ◌⊎◌, ℕ, ◌+◌, ◌<◌, ◌/◌, ◌%◌, Bool, true, false, nat_eq, bytes_eq, pos, List, [], ◌∷◌, ◌++◌, map, length, take, slice_index_or, codes, Option, Some, None, Ok}
use Rattle.std.specs.List.{list_any}
use Rattle.emp_num.specs.declared.frac.Frac.{Frac}
use Rattle.emp_num.specs.Point.{Point, StandsFor}
use Rattle.emp_ast.specs.declared.model.Model.{Model}
use Rattle.emp_ast.specs.declared.annot.Annot.{Annot}
use Rattle.emp_ast.specs.Names.{variable_names}
use Rattle.emp_ast.specs.Parties.{is_defined}
use Rattle.emp_ast.specs.Equilibrium.{IsEquilibrium}
use Rattle.emp_ast.specs.Bilevel.{IsBest, IsRay}
use Rattle.emp_desk.specs.Desk.{Place, loads, stores, output, Contents, Says, SaysPrefix, Rose}
use Rattle.emp_command.specs.declared.words.Verb.{Verb}
use Rattle.emp_command.specs.declared.words.Verb.TheVariants.{Solve, Check, Print, Make, Migrate, Pieces}
use Rattle.emp_command.specs.Words.{Asked, Asks, IsPlain}
use Rattle.emp_command.specs.Course.{Outcome, IsInRange, FilesFit, StoresAll, NeedsNoMemory}
use Rattle.gms_grammar.specs.declared.fault.ModelFault.{ModelFault}
use Rattle.gms_grammar.specs.declared.fault.ModelFault.TheVariants as ModelWords
use Rattle.gms_read.specs.Texts.{IsModelText, RefusesModel}
use Rattle.gms_print.specs.Canonical.{IsCanonical}
use Rattle.info_read.specs.declared.fault.InfoFault.{InfoFault}
use Rattle.info_read.specs.declared.fault.InfoFault.TheVariants as InfoWords
use Rattle.info_read.specs.Texts.{IsInfoText, RefusesInfo}
use Rattle.info_print.specs.Canonical.{info_text}
use Rattle.emp_owner.specs.declared.owned.OwnFault.{OwnFault}
use Rattle.emp_owner.specs.declared.owned.OwnFault.TheVariants as OwnWords
use Rattle.emp_owner.specs.Settled.{IsFirstBroken}
use Rattle.emp_problem.specs.Class.{SolvesFile}
use Rattle.emp_cert.specs.declared.cert.Cert.{Cert}
use Rattle.emp_cert.specs.declared.cert.Found.{Found}
use Rattle.emp_cert.specs.declared.cert.Verdict.{Verdict}
use Rattle.emp_cert_text.specs.Text.{cert_text}
use Rattle.emp_cert_text.specs.Upgrading.{IsUpgrade}
use Rattle.emp_check.specs.declared.outcome.Checked.TheVariants.{Accepted}
use Rattle.emp_check.specs.Checks.{checked}
use Rattle.emp_walk.specs.Founds.{CertGives}
use Rattle.emp_share.specs.Laws.{IsNotConvex}
use Rattle.emp_solution.specs.declared.state.Stated.{Stated}
use Rattle.emp_solution.specs.Stated.{IsStated}
use Rattle.emp_solution.specs.Tells.{VerdictTells}
use Rattle.emp_accepted.specs.Accepted.{IsAcceptedPair}
use Rattle.emp_report.specs.TextLines.{model_line, info_line, own_line}
use Rattle.emp_report.specs.ClassLines.{convex_line}
use Rattle.emp_make.specs.Markets.{IsMarket}
use Rattle.emp_makes.specs.Makes.{OutputGives, ProfitGives, summary, Makes}
use Rattle.emp_report.specs.CertLines.{sum_line, accepted_line, migrated_line}
use Rattle.emp_report.specs.Report.{equilibrium_report, best_report, unbounded_report}
use Rattle.emp_outcomes.specs.Outcomes.{Refuses, Solves}
use Rattle.emp_outcome_laws.specs.Certificates.{check_outcome, migrate_outcome}
use Rattle.emp_outcome_laws.specs.Images.{VerdictStands}
use Rattle.emp_answers.specs.Answers.{is_built, Does, Answers}

-- ---- words
-- the first word
abbrev pub HasVerb : List ℕ → List (List ℕ) → Type 0
HasVerb verb words = (rest : List (List ℕ)) × (words ≡ verb ∷ rest)

abbrev pub IsSolve : List (List ℕ) → Type 0
IsSolve words = HasVerb (codes "solve") words

abbrev pub IsPrint : List (List ℕ) → Type 0
IsPrint words = HasVerb (codes "print") words

abbrev pub IsCheck : List (List ℕ) → Type 0
IsCheck words = HasVerb (codes "check") words

abbrev pub IsMigrate : List (List ℕ) → Type 0
IsMigrate words = HasVerb (codes "migrate") words

-- the files that the words name first and second hold texts that stand for the model and for the annotation of it
pub record TextsSay (words : List (List ℕ)) (before : Contents) (m : Model) (a : Annot) : Type 0 where
  pub request : Asked
  pub asked : Asks words request
  pub model_file : List ℕ
  pub info_file : List ℕ
  pub others : List (List ℕ)
  pub files : request.files ≡ model_file ∷ info_file ∷ others
  pub model : IsModelText (before.holds model_file) m
  pub info : IsInfoText (before.holds info_file) m a

-- the output grew by the text
abbrev pub Grows : List ℕ → Contents → Contents → Type 0
Grows text before after = after.said ≡ before.said ++ text

-- ---- the headline
-- an equilibrium, or in a bilevel file a best point
abbrev pub IsSolution : Bool → Model → Annot → Point → Type 0
IsSolution false m a p = IsEquilibrium m a p
IsSolution true m a p = IsBest m a p

abbrev pub point_report : Bool → ℕ → List (List ℕ) → List Frac → List ℕ
point_report false work names values = equilibrium_report work names values
point_report true work names values = best_report work names values

-- the output grew by the report of one point, which is an equilibrium, or in a bilevel file a best point, of what the two texts stand for
pub record SaysPoint (words : List (List ℕ)) (before after : Contents) : Type 0 where
  pub model : Model
  pub annot : Annot
  pub texts : TextsSay words before model annot
  pub work : ℕ
  pub values : List Frac
  pub said : Grows (point_report annot.bilevel work (variable_names model) values) before after
  pub point : Point
  pub stands : StandsFor values point
  pub solution : IsSolution annot.bilevel model annot point

-- no point is an equilibrium, or in a bilevel file admissible, of what the two texts stand for
pub record ShowsNone (words : List (List ℕ)) (before after : Contents) : Type 0 where
  pub model : Model
  pub annot : Annot
  pub texts : TextsSay words before model annot
  pub none : (p : Point) → SolvesFile model annot p → ⊥

-- the output grew by the report of a point and a step, which are a ray of what the two texts stand for: the file is bilevel, and a
-- variable that an equation defines has a step of 0, which is not printed
pub record SaysRay (words : List (List ℕ)) (before after : Contents) : Type 0 where
  pub model : Model
  pub annot : Annot
  pub texts : TextsSay words before model annot
  pub bilevel : annot.bilevel ≡ true
  pub work : ℕ
  pub values : List Frac
  pub steps : List Frac
  pub said : Grows (unbounded_report work (variable_names model) values steps) before after
  pub point : Point
  pub step : Point
  pub stands : StandsFor values point
  pub steps_stand : StandsFor steps step
  pub still : (x : ℕ) (f : Frac) → x < length steps → is_defined model annot x ≡ true → (slice_index_or steps x f).num ≡ pos 0
  pub ray : IsRay model annot point step

-- ---- certificates
-- the third file holds the text of a certificate that is accepted for the rows of what the two texts stand for; its verdict tells what it
-- says of them, and the point of the file that it speaks of is there
pub record HasAccepted (words : List (List ℕ)) (before : Contents) : Type 0 where
  pub model : Model
  pub annot : Annot
  pub texts : TextsSay words before model annot
  pub cert_file : List ℕ
  pub third : texts.others ≡ cert_file ∷ []
  pub stated : Stated
  pub rows : IsStated model annot stated
  pub cert : Cert
  pub text : before.holds cert_file ≡ cert_text cert
  pub accepted : checked stated.system cert ≡ Accepted
  pub tells : VerdictTells model annot cert.verdict
  pub stands : VerdictStands model annot cert.verdict

pub record ShowsAccepted (words : List (List ℕ)) (before after : Contents) : Type 0 where
  pub has : HasAccepted words before
  pub said : Grows (accepted_line has.cert.verdict) before after

-- the same certificate with the pairs of the rows named is in the file that the words name last
pub record ShowsMigrated (words : List (List ℕ)) (before after : Contents) : Type 0 where
  pub has : HasAccepted words before
  pub name : List ℕ
  pub last : has.texts.request.output ≡ Some name
  pub named : Cert
  pub upgrade : IsUpgrade has.cert has.stated.system.pairs named
  pub stored : after.holds name ≡ cert_text named
  pub said : Grows (migrated_line named.verdict) before after

-- ---- canonical texts
pub record SaysCanonical (words : List (List ℕ)) (before after : Contents) : Type 0 where
  pub model : Model
  pub annot : Annot
  pub texts : TextsSay words before model annot
  pub canonical : List ℕ
  pub is : IsCanonical model canonical
  pub said : Says (canonical ++ info_text model annot) before after

-- ---- refused texts
-- the text of the first file has the fault whose line was said
pub record ShowsModelFault (words : List (List ℕ)) (before after : Contents) : Type 0 where
  pub request : Asked
  pub asked : Asks words request
  pub model_file : List ℕ
  pub others : List (List ℕ)
  pub files : request.files ≡ model_file ∷ others
  pub fault : ModelFault
  pub named : fault ≢ ModelWords.NoMemory
  pub refuses : RefusesModel (before.holds model_file) fault
  pub said : Says (model_line fault) before after

-- the text of the first file stands for a model, and that of the second has the fault whose line was said
pub record ShowsInfoFault (words : List (List ℕ)) (before after : Contents) : Type 0 where
  pub request : Asked
  pub asked : Asks words request
  pub model_file : List ℕ
  pub info_file : List ℕ
  pub others : List (List ℕ)
  pub files : request.files ≡ model_file ∷ info_file ∷ others
  pub model : Model
  pub model_text : IsModelText (before.holds model_file) model
  pub fault : InfoFault
  pub named : fault ≢ InfoWords.NoMemory
  pub refuses : RefusesInfo (before.holds info_file) model fault
  pub said : Says (info_line fault) before after

-- the rule of ownership whose line was said is the first that is broken
pub record ShowsOwnFault (words : List (List ℕ)) (before after : Contents) : Type 0 where
  pub model : Model
  pub annot : Annot
  pub texts : TextsSay words before model annot
  pub fault : OwnFault
  pub named : fault ≢ OwnWords.NoMemory
  pub broken : IsFirstBroken model annot fault
  pub said : Says (own_line model fault) before after

-- the agent of the block whose line was said is not convex in its first k counted variables, and is convex in fewer
pub record ShowsNotConvex (words : List (List ℕ)) (before after : Contents) : Type 0 where
  pub model : Model
  pub annot : Annot
  pub texts : TextsSay words before model annot
  pub block : ℕ
  pub own : ℕ
  pub not : IsNotConvex model annot block own
  pub said : Says (convex_line block own) before after

-- ---- generated markets
abbrev pub IsMake : List (List ℕ) → Type 0
IsMake words = HasVerb (codes "make") words

-- the canonical texts are in the files of this name, where there is one
abbrev pub HoldsMarket : Model → Annot → Option (List ℕ) → Contents → Type 0
HoldsMarket m a None after = Unit {0}
HoldsMarket m a (Some name) after = (text : List ℕ) × IsCanonical m text × (after.holds (name ++ codes ".gms") ≡ text) × (after.holds (name ++ codes ".info") ≡ info_text m a)

-- the sums of an equilibrium of a market of the seed were said, and its texts are in the files that the words name
pub record ShowsMarket (words : List (List ℕ)) (before after : Contents) : Type 0 where
  pub request : Asked
  pub asked : Asks words request
  pub model : Model
  pub annot : Annot
  pub market : IsMarket request.seed request.firms model annot
  pub values : List Frac
  pub point : Point
  pub stands : StandsFor values point
  pub equilibrium : IsEquilibrium model annot point
  pub output : Frac
  pub profit : Frac
  pub outputs : OutputGives request.firms values (Ok output)
  pub profits : ProfitGives request.firms values (Ok profit)
  pub said : Grows (summary request.firms output profit) before after
  pub saved : HoldsMarket model annot request.output after

-- a market has an equilibrium, so that `make` answers neither that there is none nor a ray
abbrev pub is_market_status : ℕ → Bool
is_market_status s = list_any (λ k. nat_eq k s) (0 ∷ 10 ∷ 12 ∷ 19 ∷ 20 ∷ 21 ∷ 24 ∷ [])

-- ---- causes
-- what is answered: over the texts of the files, or, by `make`, over none
pub data IsAnswer (r : Asked) : List (List ℕ) → Outcome → Type 0 where
  over_texts : (texts : List (List ℕ)) (o : Outcome) → Answers r texts o → IsAnswer r texts o
  market : (o : Outcome) → r.verb ≡ Make → Makes r o → IsAnswer r [] o

-- what was answered, by its cause: it was stored and said whole
pub record IsAnswered (words : List (List ℕ)) (before after : Contents) (status : ℕ) : Type 0 where
  pub request : Asked
  pub asked : Asks words request
  pub range : IsInRange request
  pub outcome : Outcome
  pub answers : IsAnswer request (map before.holds request.files) outcome
  pub is : outcome.status ≡ status
  pub between : Contents
  pub stored : StoresAll outcome.stores before between
  pub said : Says outcome.says between after

-- a report, canonical texts, an accepted certificate, or a line of texts, of ownership, of the file or of a certificate; 24 aside, which
-- the words may cause too
abbrev pub is_caused : ℕ → Bool
is_caused s = list_any (λ k. nat_eq k s) (0 ∷ 1 ∷ 2 ∷ 14 ∷ 15 ∷ 16 ∷ 17 ∷ 18 ∷ 19 ∷ 20 ∷ 22 ∷ 23 ∷ 30 ∷ [])

abbrev pub ShowsCause : ℕ → List (List ℕ) → Contents → Contents → Type 0
ShowsCause status words before after = IsAnswered words before after status

-- where the words' numbers are in range and the files that they name within their limits: what was answered over
-- the texts was stored and said whole, unless memory was wanted
abbrev pub IsReachable : List (List ℕ) → Contents → Type 0
IsReachable words before = (r : Asked) → Asks words r → IsInRange r × FilesFit before 1 r.files

-- a file was not read, something was not written, memory was wanting, or it is so
abbrev pub OrFails : ℕ → Type 0 → Type 0
OrFails status so = (status ≡ 11) ⊎ ((status ≡ 12) ⊎ ((status ≡ 21) ⊎ so))

-- whatever counts rose
abbrev pub Completes : List (List ℕ) → ℕ → Contents → Contents → Type 0
Completes words status before after = IsPlain words → IsReachable words before → OrFails status (IsAnswered words before after status)

-- and where none rose
abbrev pub IsComplete : List (List ℕ) → ℕ → Contents → Contents → Type 0
IsComplete words status before after = IsPlain words → IsReachable words before → (status ≡ 21) ⊎ IsAnswered words before after status

-- words of `make` are answered so: a market is summed up, or a number is wide, or the work is spent
abbrev pub MakesWhole : List (List ℕ) → ℕ → Contents → Contents → Type 0
MakesWhole words status before after = IsMake words → IsPlain words → IsReachable words before → (status ≡ 21) ⊎ ((status ≡ 0) ⊎ ((status ≡ 19) ⊎ (status ≡ 20)))

-- where moreover the first two texts stand for a model and an annotation of it, that is what the verb does over these
pub record IsDone (words : List (List ℕ)) (m : Model) (a : Annot) (before after : Contents) (status : ℕ) : Type 0 where
  pub request : Asked
  pub asked : Asks words request
  pub model_file : List ℕ
  pub info_file : List ℕ
  pub others : List (List ℕ)
  pub files : request.files ≡ model_file ∷ info_file ∷ others
  pub outcome : Outcome
  pub does : Does m a request (map before.holds others) outcome
  pub is : outcome.status ≡ status
  pub between : Contents
  pub stored : StoresAll outcome.stores before between
  pub said : Says outcome.says between after

pub record NamesTexts (r : Asked) (before : Contents) (m : Model) (a : Annot) : Type 0 where
  pub built : is_built r ≡ true
  pub model_file : List ℕ
  pub info_file : List ℕ
  pub others : List (List ℕ)
  pub files : r.files ≡ model_file ∷ info_file ∷ others
  pub model : IsModelText (before.holds model_file) m
  pub info : IsInfoText (before.holds info_file) m a

abbrev pub DoesWhole : List (List ℕ) → ℕ → Contents → Contents → Type 0
DoesWhole words status before after = (m : Model) (a : Annot) → IsPlain words → IsReachable words before → ((r : Asked) → Asks words r → NamesTexts r before m a) → (status ≡ 21) ⊎ IsDone words m a before after status

-- ---- accepted pairs
-- a point, none, a ray, a wide number, spent work, or a certificate that is too long to be stored
abbrev pub is_decision : ℕ → Bool
is_decision s = list_any (λ k. nat_eq k s) (0 ∷ 1 ∷ 2 ∷ 19 ∷ 20 ∷ 24 ∷ [])

-- what `solve` answers over an accepted pair: the one outcome that it may have; before the search there is no refusal but that a number is
-- wide
pub record IsDecided (words : List (List ℕ)) (m : Model) (a : Annot) (before after : Contents) (status : ℕ) : Type 0 where
  pub request : Asked
  pub asked : Asks words request
  pub outcome : Outcome
  pub solves : Solves m a request outcome
  pub only : (o : Outcome) → Solves m a request o → o ≡ outcome
  pub refused : Refuses m a outcome → status ≡ 19
  pub is : outcome.status ≡ status
  pub decision : is_decision status ≡ true
  pub between : Contents
  pub stored : StoresAll outcome.stores before between
  pub said : Says outcome.says between after

-- where the texts are an accepted pair, plain words of `solve` are answered so, unless memory was wanted
abbrev pub DecidesWhole : List (List ℕ) → ℕ → Contents → Contents → Type 0
DecidesWhole words status before after = IsSolve words → (m : Model) (a : Annot) → IsAcceptedPair m a → IsPlain words → IsReachable words before → ((r : Asked) → Asks words r → NamesTexts r before m a) → (status ≡ 21) ⊎ IsDecided words m a before after status

-- ---- any certificate
-- the two texts have a row system, and the third file holds the text of a certificate
pub record HoldsCert (words : List (List ℕ)) (before : Contents) : Type 0 where
  pub model : Model
  pub annot : Annot
  pub texts : TextsSay words before model annot
  pub cert_file : List ℕ
  pub third : texts.others ≡ cert_file ∷ []
  pub stated : Stated
  pub rows : IsStated model annot stated
  pub cert : Cert
  pub text : before.holds cert_file ≡ cert_text cert

-- the outcome was stored and said whole
pub record IsDelivered (o : Outcome) (before after : Contents) (status : ℕ) : Type 0 where
  pub is : o.status ≡ status
  pub between : Contents
  pub stored : StoresAll o.stores before between
  pub said : Says o.says between after

-- `check` answers as its test against the rows ends: accepted, rejected at a node, or a sum is wide at one
abbrev pub TestsWhole : List (List ℕ) → ℕ → Contents → Contents → Type 0
TestsWhole words status before after = IsCheck words → (h : HoldsCert words before) → IsPlain words → IsReachable words before → OrFails status (IsDelivered (check_outcome h.cert (checked h.stated.system h.cert)) before after status)

-- and `migrate` the same, where d is the certificate with the pairs of the rows named; an accepted one is stored unless its text is too long
abbrev pub MovesWhole : List (List ℕ) → ℕ → Contents → Contents → Type 0
MovesWhole words status before after =
    IsMigrate words → (h : HoldsCert words before) (name : List ℕ) (d : Cert) → h.texts.request.output ≡ Some name → IsUpgrade h.cert h.stated.system.pairs d → IsPlain words → IsReachable words before → OrFails status (IsDelivered (migrate_outcome name d (checked h.stated.system h.cert)) before after status)

-- ---- certificates of the program's own
-- the third file holds the text of the certificate that `solve` finds of what the two texts stand for, with some work
pub record HoldsOwn (words : List (List ℕ)) (before : Contents) : Type 0 where
  pub model : Model
  pub annot : Annot
  pub texts : TextsSay words before model annot
  pub cert_file : List ℕ
  pub third : texts.others ≡ cert_file ∷ []
  pub stated : Stated
  pub rows : IsStated model annot stated
  pub work : ℕ
  pub found : Found
  pub search : CertGives stated.system work (Ok found)
  pub text : before.holds cert_file ≡ cert_text found.cert

-- `check` accepts it, or a sum in its test is wide
abbrev pub Passes : Verdict → ℕ → Contents → Contents → Type 0
Passes verdict status before after = ((status ≡ 0) × Says (accepted_line verdict) before after) ⊎ ((node : ℕ) × (status ≡ 19) × Says (sum_line node) before after)

abbrev pub OwnWhole : List (List ℕ) → ℕ → Contents → Contents → Type 0
OwnWhole words status before after = IsCheck words → (own : HoldsOwn words before) → IsPlain words → IsReachable words before → (status ≡ 21) ⊎ Passes own.found.cert.verdict status before after

-- ---- files
-- the names of the files that the words name to be written
abbrev pub written_by : Verb → Option (List ℕ) → List (List ℕ)
written_by Solve None = []
written_by Solve (Some f) = f ∷ []
written_by Migrate None = []
written_by Migrate (Some f) = f ∷ []
written_by Check o = []
written_by Print o = []
written_by Make None = []
written_by Make (Some f) = (f ++ codes ".gms") ∷ (f ++ codes ".info") ∷ []
written_by Pieces o = []

abbrev pub written : Asked → List (List ℕ)
written r = written_by r.verb r.output

-- each file that the words do not name to be written is as it was
abbrev pub KeepsOthers : List (List ℕ) → Contents → Contents → Type 0
KeepsOthers words before after = (name : List ℕ) → ((r : Asked) → Asks words r → list_any (λ f. bytes_eq f name) (written r) ≡ false) → after.holds name ≡ before.holds name

-- ---- refusals
-- all statuses of a refusal but 12 and 21, which may come when something was stored or said
abbrev pub is_refusal : ℕ → Bool
is_refusal s = list_any (λ k. nat_eq k s) (10 ∷ 11 ∷ 13 ∷ 14 ∷ 15 ∷ 16 ∷ 17 ∷ 18 ∷ 19 ∷ 20 ∷ 22 ∷ 23 ∷ 24 ∷ 30 ∷ [])

-- the line begins with the status in its two digits
abbrev pub IsFaultLine : ℕ → List ℕ → Type 0
IsFaultLine status line = take 10 line ≡ codes "error " ++ (48 + status / 10) ∷ (48 + status % 10) ∷ codes ": "

-- only the line of the refusal was said, and no file changed; where no memory is asked for, a desk that finds none says a prefix of it
pub record SaysRefusal (status : ℕ) (words : List (List ℕ)) (before after : Contents) : Type 0 where
  pub line : List ℕ
  pub fault : IsFaultLine status line
  pub said : SaysPrefix line before after
  pub whole : (NeedsNoMemory words → ⊥) → Says line before after

-- ---- counts
-- the count of the loads of a file that the words name rose
abbrev pub SomeLoadRose : List (List ℕ) → (Place → ℕ) → (Place → ℕ) → Type 0
SomeLoadRose words old new = (r : Asked) × (earlier : List (List ℕ)) × (name : List ℕ) × (later : List (List ℕ)) × Asks words r × (r.files ≡ earlier ++ name ∷ later) × Rose (old (loads name)) (new (loads name))

-- the count of the output, or of the stores of a file that the words name to be written, rose
abbrev pub SomeWriteRose : List (List ℕ) → (Place → ℕ) → (Place → ℕ) → Type 0
SomeWriteRose words old new = Rose (old output) (new output) ⊎ ((r : Asked) × (name : List ℕ) × Asks words r × (list_any (λ f. bytes_eq f name) (written r) ≡ true) × Rose (old (stores name)) (new (stores name)))

-- no count of the output, of the loads of a file that the words name to be read, or of the stores of one to be written, rose
pub record NothingRose (words : List (List ℕ)) (old new : Place → ℕ) : Type 0 where
  pub written : SomeWriteRose words old new → ⊥
  pub loaded : SomeLoadRose words old new → ⊥

-- a number that plain words ask is out of its range
abbrev pub IsOutside : List (List ℕ) → Type 0
IsOutside words = (r : Asked) × Asks words r × (IsInRange r → ⊥)

-- ---- statuses
-- 0 a report, canonical texts or an accepted certificate, 1 none, 2 unbounded, 10 words, 11 unread, 12 unwritten, 13 too long, 14 model
-- text, 15 annotation text, 16 ownership, 17 class, 18 not convex, 19 wide, 20 work spent, 21 no memory, 22 certificate text, 23
-- certificate rejected, 24 size or range, 30 not yet
abbrev pub is_status : ℕ → Bool
is_status s = list_any (λ k. nat_eq k s) (0 ∷ 1 ∷ 2 ∷ 10 ∷ 11 ∷ 12 ∷ 13 ∷ 14 ∷ 15 ∷ 16 ∷ 17 ∷ 18 ∷ 19 ∷ 20 ∷ 21 ∷ 22 ∷ 23 ∷ 24 ∷ 30 ∷ [])

abbrev pub IsStatus : ℕ → Type 0
IsStatus s = is_status s ≡ true

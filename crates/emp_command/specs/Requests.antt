-- A request as what its words ask for.
use Rattle.std.specs.Prelude.{◌∷◌, ℕ, List, MatchOption, map, string_bytes, Option, Some, None, codes}
use Rattle.std.specs.Borrow.{Bor}
use Rattle.emp_command.specs.Words.{Asked, Asks, HasSolveOptions, HasSaveOption, HasWorkOption}
use Rattle.emp_command.specs.declared.words.Verb.{Verb}
use Rattle.emp_command.specs.declared.words.Verb.TheVariants.{Solve, Check, Print, Make, Migrate, Pieces}
use Rattle.emp_command.specs.declared.words.Request.{Request}
use Rattle.emp_command.specs.declared.words.Key.{Key}
use Rattle.emp_command.specs.declared.words.Key.TheVariants.{Cert, Work, Save}

-- the bytes of a word, where there is one
abbrev pub word_of : Option (Bor (List ℕ)) → Option (List ℕ)
word_of None = None
word_of (Some w) = Some w.now

abbrev pub asked_of : Request → Asked
asked_of r = record { verb = r.verb; files = map string_bytes r.files.now; output = word_of r.output; work = r.work; seed = r.seed; firms = r.firms }

-- over these files, with what is to be written and the work
abbrev pub asks : Verb → List (List ℕ) → Option (List ℕ) → ℕ → Asked
asks verb files output work = record { verb = verb; files = files; output = output; work = work; seed = 0; firms = 0 }

-- the word of an option
abbrev pub key_text : Key → List ℕ
key_text Cert = codes "--cert"
key_text Work = codes "--work"
key_text Save = codes "--save"

-- ---- what options say, and nothing where they are no options
abbrev pub SolveOptionsGive : List (List ℕ) → Option (Option (Bor (List ℕ)) × ℕ) → Type 0
SolveOptionsGive os r = MatchOption r ((o : Option (List ℕ)) (n : ℕ) → HasSolveOptions os o n → ⊥) (λ p. HasSolveOptions os (word_of p.0) p.1)

abbrev pub SaveOptionGives : List (List ℕ) → Option (Option (Bor (List ℕ))) → Type 0
SaveOptionGives os r = MatchOption r ((o : Option (List ℕ)) → HasSaveOption os o → ⊥) (λ p. HasSaveOption os (word_of p))

abbrev pub WorkOptionGives : List (List ℕ) → Option ℕ → Type 0
WorkOptionGives os r = MatchOption r ((n : ℕ) → HasWorkOption os n → ⊥) (HasWorkOption os)

-- what is asked by a verb and the words behind it, and nothing where the words are not plain
abbrev pub AskedGives : List ℕ → List (List ℕ) → Option Request → Type 0
AskedGives verb words r = MatchOption r ((a : Asked) → Asks (verb ∷ words) a → ⊥) (λ q. Asks (verb ∷ words) (asked_of q))

abbrev pub verb_text : Verb → List ℕ
verb_text Solve = codes "solve"
verb_text Check = codes "check"
verb_text Print = codes "print"
verb_text Make = codes "make"
verb_text Migrate = codes "migrate"
verb_text Pieces = codes "pieces"

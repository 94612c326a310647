-- The words of the command line and what they ask for. A word that names a file is not empty and does not begin with `-`;
-- a number is digits alone.
use Rattle.std.specs.Prelude.{◌≡◌, ◌≢◌, ℕ, ◌<◌, ◌^◌, List, [], ◌∷◌, All, codes, Option, Some, None}
use Rattle.std.specs.Str.Parse.{IsNumeral, digits_value}
use Rattle.emp_command.specs.declared.words.Verb.{Verb}
use Rattle.emp_command.specs.declared.words.Verb.TheVariants.{Solve, Check, Print, Make, Migrate, Pieces}

-- what words ask for: the files to be read in order, the name of what is to be written, and the numbers that a verb takes
pub record Asked : Type 0 where
  pub verb : Verb
  pub files : List (List ℕ)
  pub output : Option (List ℕ)
  pub work : ℕ
  pub seed : ℕ
  pub firms : ℕ

abbrev pub IsFileWord : List ℕ → Type 0
IsFileWord [] = ⊥
IsFileWord (b ∷ bs) = b ≢ 45

abbrev pub AreFileWords : List (List ℕ) → Type 0
AreFileWords words = All IsFileWord words

-- digits alone, with a value below 2^64
pub record IsNumber (word : List ℕ) (n : ℕ) : Type 0 where
  pub digits : IsNumeral 10 word
  pub value : digits_value 10 word ≡ n
  pub below : n < 2 ^ 64

abbrev pub default_work : ℕ
default_work = 1000000

-- ---- options, in any order, each at most once
pub data HasSolveOptions : List (List ℕ) → Option (List ℕ) → ℕ → Type 0 where
  no_option : HasSolveOptions [] None default_work
  cert : (f : List ℕ) → IsFileWord f → HasSolveOptions (codes "--cert" ∷ f ∷ []) (Some f) default_work
  work : (w : List ℕ) (n : ℕ) → IsNumber w n → HasSolveOptions (codes "--work" ∷ w ∷ []) None n
  cert_and_work : (f w : List ℕ) (n : ℕ) → IsFileWord f → IsNumber w n → HasSolveOptions (codes "--cert" ∷ f ∷ codes "--work" ∷ w ∷ []) (Some f) n
  work_and_cert : (w f : List ℕ) (n : ℕ) → IsNumber w n → IsFileWord f → HasSolveOptions (codes "--work" ∷ w ∷ codes "--cert" ∷ f ∷ []) (Some f) n

pub data HasSaveOption : List (List ℕ) → Option (List ℕ) → Type 0 where
  unsaved : HasSaveOption [] None
  save : (f : List ℕ) → IsFileWord f → HasSaveOption (codes "--save" ∷ f ∷ []) (Some f)

pub data HasWorkOption : List (List ℕ) → ℕ → Type 0 where
  by_default : HasWorkOption [] default_work
  limited : (w : List ℕ) (n : ℕ) → IsNumber w n → HasWorkOption (codes "--work" ∷ w ∷ []) n

-- ---- the plain form of the words
pub data Asks : List (List ℕ) → Asked → Type 0 where
  solve : (m i : List ℕ) (os : List (List ℕ)) (o : Option (List ℕ)) (n : ℕ) → IsFileWord m → IsFileWord i → HasSolveOptions os o n → Asks (codes "solve" ∷ m ∷ i ∷ os) (record { verb = Solve; files = m ∷ i ∷ []; output = o; work = n; seed = 0; firms = 0 })
  check : (m i c : List ℕ) → IsFileWord m → IsFileWord i → IsFileWord c → Asks (codes "check" ∷ m ∷ i ∷ c ∷ []) (record { verb = Check; files = m ∷ i ∷ c ∷ []; output = None; work = default_work; seed = 0; firms = 0 })
  print : (m i : List ℕ) → IsFileWord m → IsFileWord i → Asks (codes "print" ∷ m ∷ i ∷ []) (record { verb = Print; files = m ∷ i ∷ []; output = None; work = default_work; seed = 0; firms = 0 })
  make : (s f : List ℕ) (seed firms : ℕ) (os : List (List ℕ)) (o : Option (List ℕ)) → IsNumber s seed → IsNumber f firms → HasSaveOption os o → Asks (codes "make" ∷ s ∷ f ∷ os) (record { verb = Make; files = []; output = o; work = default_work; seed = seed; firms = firms })
  migrate : (m i c o : List ℕ) → IsFileWord m → IsFileWord i → IsFileWord c → IsFileWord o → Asks (codes "migrate" ∷ m ∷ i ∷ c ∷ o ∷ []) (record { verb = Migrate; files = m ∷ i ∷ c ∷ []; output = Some o; work = default_work; seed = 0; firms = 0 })
  pieces : (m i : List ℕ) (os : List (List ℕ)) (n : ℕ) → IsFileWord m → IsFileWord i → HasWorkOption os n → Asks (codes "pieces" ∷ m ∷ i ∷ os) (record { verb = Pieces; files = m ∷ i ∷ []; output = None; work = n; seed = 0; firms = 0 })

abbrev pub IsPlain : List (List ℕ) → Type 0
IsPlain words = (r : Asked) × Asks words r

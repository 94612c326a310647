-- What the reader of certificates answers.
use Rattle.std.specs.Prelude.{◌≡◌, ℕ, ◌<◌, ◌≤◌, Bool, List, length, drop, Result, Ok, Err}
use Rattle.std.specs.Io.BufRead.{take_through}
use Rattle.emp_cert.specs.declared.cert.Cert.{Cert}
use Rattle.emp_cert_text.specs.declared.read.CertFault.{CertFault}
use Rattle.emp_cert_text.specs.declared.read.CertFault.TheVariants.{TooLong, Version, Range, Syntax, NoMemory}
use Rattle.emp_cert_text.specs.declared.read.Spot.{Spot}
use Rattle.emp_cert_text.specs.Course.{Part, Reaches, RangeAt, SyntaxAt}
use Rattle.emp_cert_text.specs.Text.{version_text}
use Rattle.emp_cert_text.specs.Writing.{longest}

-- why a text is not read: each fault with what is so exactly there
abbrev pub ReadFails : List ℕ → CertFault → Type 0
ReadFails t TooLong = longest < length t
ReadFails t Version = (length t ≤ longest) × ((second : Bool) → take_through 10 t ≡ version_text second → ⊥)
ReadFails t (Range n) = (length t ≤ longest) × RangeAt t n
ReadFails t (Syntax n) = (length t ≤ longest) × SyntaxAt t n
ReadFails t NoMemory = Unit {0}

-- the two certificates say the same
pub record IsSame (c d : Cert) : Type 0 where
  pub base : c.base ≡ d.base
  pub quantities : c.quantities ≡ d.quantities
  pub pairs : c.pairs ≡ d.pairs
  pub links : c.links ≡ d.links
  pub verdict : c.verdict ≡ d.verdict

-- that certificate was read, or memory was wanting
abbrev pub IsRead : Cert → Result Cert CertFault → Type 0
IsRead c (Ok d) = IsSame c d
IsRead c (Err TooLong) = ⊥
IsRead c (Err Version) = ⊥
IsRead c (Err (Range n)) = ⊥
IsRead c (Err (Syntax n)) = ⊥
IsRead c (Err NoMemory) = Unit {0}

-- a place in the text before which all lines are right, with these parts still to come
pub record IsAt (t : List ℕ) (ps : List Part) (s : Spot) : Type 0 where
  pub few : s.line ≤ s.at
  pub reached : Reaches t s.line ps (drop s.at t)

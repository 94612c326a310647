-- The laws of what may stand line by line, and of faults, as statements.
use Rattle.std.specs.Prelude.{◌≡◌, ◌≢◌, ℕ, ◌≤◌, List, [], ◌∷◌, ◌++◌}
use Rattle.emp_cert.specs.declared.cert.Cert.{Cert}
use Rattle.emp_cert_text.specs.Text.{cert_text}
use Rattle.emp_cert_text.specs.Course.{Part, Reaches}
use Rattle.emp_cert_text.specs.Course.Part.{counts, pair, verdict, point, ray, tree, last}
use Rattle.emp_cert_text.specs.Reading.{IsSame, ReadFails}
use Rattle.emp_cert_text.specs.declared.read.CertFault.{CertFault}
use Rattle.emp_cert_text.specs.declared.read.CertFault.TheVariants.{NoMemory}

-- no line can stand for a pair where there are no quantities
abbrev pub CanStand : Part → Type 0
CanStand (counts second) = Unit {0}
CanStand (pair q) = 1 ≤ q
CanStand (verdict h) = Unit {0}
CanStand (point b) = Unit {0}
CanStand (ray b) = Unit {0}
CanStand (tree h) = Unit {0}
CanStand last = Unit {0}

abbrev pub AllCanStand : List Part → Type 0
AllCanStand [] = Unit {0}
AllCanStand (p ∷ ps) = CanStand p × AllCanStand ps

-- the text without what is left begins the text of a certificate
pub record Begins (t r : List ℕ) : Type 0 where
  pub cert : Cert
  pub front : List ℕ
  pub back : List ℕ
  pub here : t ≡ front ++ r
  pub there : cert_text cert ≡ front ++ back

pub record CourseIsCerts : Type 0 where
  -- the text of each certificate goes, line by line, to where nothing is to come and nothing is left
  pub goes : (c : Cert) → (n : ℕ) × Reaches (cert_text c) n [] []
  -- a text that goes there is the text of a certificate
  pub comes : (t : List ℕ) (n : ℕ) → Reaches t n [] [] → (c : Cert) × (cert_text c ≡ t)
  -- and of one alone
  pub one : (c d : Cert) → cert_text c ≡ cert_text d → IsSame c d
  -- the lines before line n are the first lines of a certificate, but where pairs are to come and there are no quantities
  pub begins : (t : List ℕ) (n : ℕ) (ps : List Part) (r : List ℕ) → Reaches t n ps r → AllCanStand ps → Begins t r

-- a text has one fault, but for the want of memory
abbrev pub OneCertFault : Type 0
OneCertFault = (t : List ℕ) (e f : CertFault) → e ≢ NoMemory → f ≢ NoMemory → ReadFails t e → ReadFails t f → e ≡ f

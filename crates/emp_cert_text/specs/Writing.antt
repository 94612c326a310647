-- What the writer of certificates answers.
use Rattle.std.specs.Prelude.{◌≡◌, ℕ, ◌+◌, ◌<◌, ◌≤◌, List, ◌++◌, length, All, Result, Ok, Err}
use Rattle.emp_cert.specs.declared.cert.Verdict.{Verdict}
use Rattle.emp_cert.specs.declared.cert.Verdict.TheVariants.{Point, Missing, Best, Unbounded}
use Rattle.emp_cert.specs.declared.tree.Node.{Node}
use Rattle.emp_cert.specs.declared.tree.Node.TheVariants.{Branch, Farkas, Bound}
use Rattle.emp_cert_text.specs.declared.write.WriteFault.{WriteFault}
use Rattle.emp_cert_text.specs.declared.write.WriteFault.TheVariants.{TooLong, NoMemory}

-- a leaf has at most 512 factors
abbrev pub HasFew : Node → Type 0
HasFew (Branch k) = Unit {0}
HasFew (Farkas fs) = length fs ≤ 512
HasFew (Bound w fs) = length fs ≤ 512

-- all leaves of a verdict's tree have
abbrev pub VerdictHasFew : Verdict → Type 0
VerdictHasFew (Point fs) = Unit {0}
VerdictHasFew (Missing t) = All HasFew t.nodes
VerdictHasFew (Best fs t) = All HasFew t.nodes
VerdictHasFew (Unbounded fs gs) = Unit {0}

-- the longest text that is written or read
abbrev pub longest : ℕ
longest = 16777216

-- the text was added, or why it was not: each outcome with what is so exactly there
abbrev pub AddsText : List ℕ → List ℕ → List ℕ → Result (Unit {0}) WriteFault → Type 0
AddsText old text new (Ok u) = new ≡ old ++ text
AddsText old text new (Err TooLong) = longest < length old + length text
AddsText old text new (Err NoMemory) = Unit {0}

-- why a text is not written
abbrev pub WriteFails : List ℕ → WriteFault → Type 0
WriteFails text TooLong = longest < length text
WriteFails text NoMemory = Unit {0}

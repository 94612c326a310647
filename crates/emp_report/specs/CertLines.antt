-- The lines of certificates: texts that are refused, certificates that are, and those that are accepted.
use Rattle.std.specs.Prelude.{ℕ, List, ◌++◌, codes, decimal}
use Rattle.emp_command.specs.Lines.{no_memory_line, too_long_line}
use Rattle.emp_cert.specs.declared.cert.Verdict.{Verdict}
use Rattle.emp_cert.specs.declared.cert.Verdict.TheVariants.{Point, Missing, Best, Unbounded}
use Rattle.emp_cert_text.specs.declared.read.CertFault.{CertFault}
use Rattle.emp_cert_text.specs.declared.read.CertFault.TheVariants as CertWords
use Rattle.emp_check.specs.declared.outcome.Why.{Why}
use Rattle.emp_check.specs.declared.outcome.Why.TheVariants as WhyWords

-- ---- texts of certificates
abbrev pub cert_line : CertFault → List ℕ
cert_line CertWords.Version = codes "error 22: certificate version\n"
cert_line (CertWords.Syntax n) = codes "error 22: certificate line " ++ decimal n ++ codes " syntax\n"
cert_line (CertWords.Range n) = codes "error 22: certificate line " ++ decimal n ++ codes " range\n"
cert_line CertWords.TooLong = too_long_line 3 16777216
cert_line CertWords.NoMemory = no_memory_line

-- a certificate to be written that is too long
abbrev pub long_line : List ℕ
long_line = codes "error 24: certificate too long\n"

-- ---- what the checker answers
abbrev pub why_word : Why → List ℕ
why_word WhyWords.Sizes = codes "sizes"
why_word WhyWords.Pairs = codes "pairs"
why_word WhyWords.Kind = codes "kind"
why_word WhyWords.Quantity = codes "quantity"
why_word WhyWords.Pair = codes "pair"
why_word WhyWords.Ray = codes "ray"
why_word WhyWords.Split = codes "split"
why_word WhyWords.Factor = codes "factor"
why_word WhyWords.NotConstant = codes "not constant"
why_word WhyWords.Constant = codes "constant"

abbrev pub rejected_line : ℕ → Why → List ℕ
rejected_line node w = codes "error 23: certificate node " ++ decimal node ++ codes " " ++ why_word w ++ codes "\n"

abbrev pub sum_line : ℕ → List ℕ
sum_line node = codes "error 19: wide sum node " ++ decimal node ++ codes "\n"

-- ---- certificates that are accepted
abbrev pub verdict_word : Verdict → List ℕ
verdict_word (Point fs) = codes "point"
verdict_word (Missing t) = codes "none"
verdict_word (Best fs t) = codes "best"
verdict_word (Unbounded fs gs) = codes "unbounded"

abbrev pub accepted_line : Verdict → List ℕ
accepted_line v = codes "accepted " ++ verdict_word v ++ codes "\n"

abbrev pub migrated_line : Verdict → List ℕ
migrated_line v = codes "migrated " ++ verdict_word v ++ codes "\n"

-- With enough units no search is out of them.
use Rattle.std.proofs.Common.{ℕ, Result, Ok, Err, IfErr, subst}
use Rattle.emp_rows.specs.declared.system.RowSystem.{RowSystem}
use Rattle.emp_cert.specs.declared.cert.Found.{Found}
use Rattle.emp_search.specs.Search.{search_of}
use Rattle.emp_ends.proofs.Counting.{searches_end}
use Rattle.emp_walk.specs.declared.fault.WalkFault.{WalkFault}
use Rattle.emp_walk.specs.Courses.{FaultGives}
use Rattle.emp_walk.specs.Founds.{CertGives}
use Rattle.emp_walk.specs.Searches.{HasUnits, IsNotSpent}

not_spent : (s : RowSystem) (limit : ℕ) (f : WalkFault) → FaultGives (search_of s limit) limit f → HasUnits s limit → IsNotSpent f
not_spent s limit f g enough l e = searches_end s limit enough (subst (FaultGives (search_of s limit) limit) e g).0

pub never_spent : (s : RowSystem) (limit : ℕ) (r : Result Found WalkFault) → CertGives s limit r → HasUnits s limit → IfErr r IsNotSpent
never_spent s limit (Ok f) g enough = tt
never_spent s limit (Err f) g enough = not_spent s limit f g enough

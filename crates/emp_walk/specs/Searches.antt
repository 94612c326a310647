-- What a call of the search gives.
use Rattle.std.specs.Prelude.{◌≡◌, ◌≢◌, ℕ, ◌-◌, ◌*◌, ◌≤◌, Bool, Some, None, Result, Ok, Err}
use Rattle.emp_rows.specs.declared.system.RowSystem.{RowSystem}
use Rattle.emp_cert.specs.declared.cert.Verdict.{Verdict}
use Rattle.emp_cert.specs.declared.cert.Verdict.TheVariants.{Point, Missing, Best, Unbounded}
use Rattle.emp_dict.specs.Dictionary.{Dictionary}
use Rattle.emp_decide.specs.Reads.{IsPointOf, IsStepOf}
use Rattle.emp_ends.specs.Ends.{nodes_below, node_units}
use Rattle.emp_search.specs.Search.{point, ray, State, Searched, closed, found, search_from, search_of}
use Rattle.emp_walk.specs.declared.fault.WalkFault.{WalkFault}
use Rattle.emp_walk.specs.declared.fault.WalkFault.TheVariants.{Spent}
use Rattle.emp_walk.specs.declared.search.Answer.{Answer}
use Rattle.emp_walk.specs.Courses.{FaultGives}

-- the search came to r with the state st, and the verdict tells it: the point or the ray that was found, or what was written and the point of the
-- incumbent, where there is one
abbrev pub VerdictGives : Searched → State → Verdict → Type 0
VerdictGives r st (Point p) = (d : Dictionary) × (r ≡ found (point d) st) × IsPointOf d p
VerdictGives r st (Missing t) = (r ≡ closed st) × (st.best ≡ None) × (t.nodes ≡ st.written)
VerdictGives r st (Best p t) = (d : Dictionary) × (r ≡ closed st) × (st.best ≡ Some d) × IsPointOf d p × (t.nodes ≡ st.written)
VerdictGives r st (Unbounded p y) = (d : Dictionary) × (j : ℕ) × (up : Bool) × (r ≡ found (ray d j up) st) × IsPointOf d p × IsStepOf d j up y

pub record AnswerGives (r : Searched) (limit : ℕ) (a : Answer) : Type 0 where
  pub state : State
  pub verdict : VerdictGives r state a.verdict
  pub work : a.work ≡ limit - state.left
  pub nodes : a.nodes ≡ state.nodes

-- each outcome comes exactly where the search of the system ends so, with so many units left of the limit and after so many nodes
abbrev pub SearchFromGives : RowSystem → ℕ → ℕ → ℕ → Result Answer WalkFault → Type 0
SearchFromGives s limit left nodes (Ok a) = AnswerGives (search_from s limit left nodes) limit a
SearchFromGives s limit left nodes (Err f) = FaultGives (search_from s limit left nodes) limit f

-- each outcome comes exactly where the search of the system with so many units ends so
abbrev pub SearchGives : RowSystem → ℕ → Result Answer WalkFault → Type 0
SearchGives s limit (Ok a) = AnswerGives (search_of s limit) limit a
SearchGives s limit (Err f) = FaultGives (search_of s limit) limit f

-- as many units as all nodes that a search opens may take, each with a step for every quantity and the objective
abbrev pub HasUnits : RowSystem → ℕ → Type 0
HasUnits s limit = (nodes_below s * node_units s) ≤ limit

-- no fault is that the units are spent
abbrev pub IsNotSpent : WalkFault → Type 0
IsNotSpent f = (limit : ℕ) → f ≢ Spent limit

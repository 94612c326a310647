-- What the whole course of a search gives.
use Rattle.std.specs.Prelude.{◌≡◌, Result, Ok, Err}
use Rattle.emp_rows.specs.declared.system.RowSystem.{RowSystem}
use Rattle.emp_cert.specs.Nodes.{AreTrees}
use Rattle.emp_walk.specs.declared.course.End.{End}
use Rattle.emp_walk.specs.declared.course.End.TheVariants.{Closed, Point, Ray}
use Rattle.emp_walk.specs.declared.fault.WalkFault.{WalkFault}
use Rattle.emp_walk.specs.declared.course.Course.{Course}
use Rattle.emp_walk.specs.Courses.{EndFits, FaultGives, WrittenFit, pending, ending_of}

pub record Ended (s : RowSystem) (old new : Course) (e : End) : Type 0 where
  pub same : pending s old ≡ ending_of new e
  pub fits : EndFits new e
  pub written : WrittenFit s new.written
  pub limit : new.budget.limit ≡ old.budget.limit

abbrev pub RunGives : RowSystem → Course → Course → Result End WalkFault → Type 0
RunGives s old new (Ok e) = Ended s old new e
RunGives s old new (Err f) = FaultGives (pending s old) old.budget.limit f

-- where no node is left, what is written is one whole tree
abbrev pub EndWhole : Course → End → Type 0
EndWhole c Closed = AreTrees 1 c.written
EndWhole c Point = Unit {0}
EndWhole c (Ray j up) = Unit {0}

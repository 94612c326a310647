-- What clauses say of a steady desk.
use Rattle.std.specs.Prelude.{ℕ, List}
use Rattle.emp_desk.specs.Desk.{Contents}
use Rattle.emp_desk.specs.Files.{Kept}
use Rattle.emp_desk.specs.Memory.{files_of, output_of, contents_of}
use Rattle.emp_desk.specs.declared.steady_desk.SteadyDesk.{SteadyDesk}

-- the files that the desk keeps, by name
abbrev pub kept : SteadyDesk → Kept
kept desk = files_of desk.memory

-- all bytes said so far
abbrev pub spoken : SteadyDesk → List ℕ
spoken desk = output_of desk.memory

-- what the desk tells of its files and its output
abbrev pub told : SteadyDesk → Contents
told desk = contents_of desk.memory

use Rattle.std.proofs.Common.{◌≡◌, Some, take}
use Rattle.info_read.specs.Machine.{start_draft, run}
use Rattle.info_read.proofs.parse.parse.Given as goal

abbrev pub invariant-loop-t : goal.invariant-loop-t
invariant-loop-t l = run start_draft (take l.t-index l.lexemes) ≡ Some l.draft

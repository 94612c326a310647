use Rattle.std.proofs.Common.{◌≡◌, length}
use Rattle.emp_check.specs.Paths.{advance}
use Rattle.emp_check.proofs.nodes.advance.Given as goal

abbrev pub invariant-loop-trail : goal.invariant-loop-trail
invariant-loop-trail l = advance l.trail ≡ advance l.fn.trail

abbrev pub decreases-loop-trail : goal.decreases-loop-trail
decreases-loop-trail l = length l.trail

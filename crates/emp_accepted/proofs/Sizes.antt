-- A pair that has its row system is accepted.
use Rattle.std.proofs.Common.{subst}
use Rattle.emp_problem.specs.declared.problem.AgentProblem.{AgentProblem}
use Rattle.emp_share.proofs.Files.{passing_tells}
use Rattle.emp_kkt.specs.Gives.{Fits}
use Rattle.emp_unique.proofs.Problems.{one_problem}
use Rattle.emp_accepted.specs.Laws.{StatedAreAccepted}

pub stated_are_accepted : StatedAreAccepted
stated_are_accepted m a s h = record {
  class = h.class;
  convex = passing_tells m a s.problem h.problem h.class h.convex;
  sizes = λ pr is. subst (λ (q : AgentProblem). Fits q) (one_problem m a s.problem pr h.class h.problem is) h.rows.fits;
}

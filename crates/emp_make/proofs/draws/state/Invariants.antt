use Rattle.std.proofs.Common.{◌≡◌, ◌<◌}
use Rattle.emp_make.specs.Markets.{state}
use Rattle.emp_make.proofs.draws.state.Given as goal

abbrev pub invariant-loop : goal.invariant-loop
invariant-loop l = record { value : l.state ≡ state l.seed l.counter; small : l.state < 65537 }

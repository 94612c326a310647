use Rattle.std.proofs.Common.{◌≡◌, ◌++◌}
use Rattle.gms_read.specs.Rules.{finished_equations}
use Rattle.gms_read.proofs.finish.finished_equations.Given as goal

abbrev pub invariant-loop-equation : goal.invariant-loop-equation
invariant-loop-equation l = (l.finished ≡ finished_equations l.yielded) × (l.yielded ++ l.equation-iterator.rest.items ≡ l.fn.equations)

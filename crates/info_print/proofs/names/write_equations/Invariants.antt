use Rattle.std.proofs.Common.{◌≡◌, ◌++◌, drop, flat_map}
use Rattle.info_print.specs.Canonical.{equation_word}
use Rattle.info_print.proofs.names.write_equations.Given as goal

abbrev pub invariant-loop-equation : goal.invariant-loop-equation
invariant-loop-equation l = l.out.items ++ flat_map (equation_word l.model) (drop l.equation-index l.equations) ≡ l.fn.out.items ++ flat_map (equation_word l.model) l.equations

use Rattle.std.proofs.Common.{◌≡◌, ◌++◌, drop, flat_map}
use Rattle.info_print.specs.Canonical.{variable_word}
use Rattle.info_print.proofs.names.write_variables.Given as goal

abbrev pub invariant-loop-variable : goal.invariant-loop-variable
invariant-loop-variable l = l.out.items ++ flat_map (variable_word l.model) (drop l.variable-index l.variables) ≡ l.fn.out.items ++ flat_map (variable_word l.model) l.variables

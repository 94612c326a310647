use Rattle.std.proofs.Common.{◌≡◌, ◌++◌, drop, flat_map}
use Rattle.info_print.specs.Canonical.{visol_line}
use Rattle.info_print.proofs.lines.write_visols.Given as goal

abbrev pub invariant-loop-equation : goal.invariant-loop-equation
invariant-loop-equation l = l.out.items ++ flat_map (visol_line l.model) (drop l.equation-index l.equations) ≡ l.fn.out.items ++ flat_map (visol_line l.model) l.equations

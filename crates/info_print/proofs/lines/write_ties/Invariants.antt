use Rattle.std.proofs.Common.{◌≡◌, ◌++◌, drop, flat_map}
use Rattle.info_print.specs.Canonical.{tie_line}
use Rattle.info_print.proofs.lines.write_ties.Given as goal

abbrev pub invariant-loop-tie : goal.invariant-loop-tie
invariant-loop-tie l = l.out.items ++ flat_map (tie_line l.word l.model) (drop l.tie-index l.ties) ≡ l.fn.out.items ++ flat_map (tie_line l.word l.model) l.ties

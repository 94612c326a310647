use Rattle.std.proofs.Common.{◌≡◌, ◌++◌, drop, flat_map}
use Rattle.info_print.specs.Canonical.{pair_words}
use Rattle.info_print.proofs.names.write_pairs.Given as goal

abbrev pub invariant-loop-pair : goal.invariant-loop-pair
invariant-loop-pair l = l.out.items ++ flat_map (pair_words l.model) (drop l.pair-index l.pairs) ≡ l.fn.out.items ++ flat_map (pair_words l.model) l.pairs

use Rattle.std.proofs.Common.{reverse, take}
use Rattle.gms_grammar.proofs.Places.{Reached}
use Rattle.gms_grammar.proofs.parse.parse.Given as goal

abbrev pub invariant-loop-t : goal.invariant-loop-t
invariant-loop-t l = Reached l.fn.kind (take l.t-index l.lexemes) (reverse l.stack.items) l.out.items

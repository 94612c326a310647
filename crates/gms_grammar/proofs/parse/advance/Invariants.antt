use Rattle.std.proofs.Common.{◌≡◌, reverse, vec_len}
use Rattle.gms_grammar.specs.Machine.{step}
use Rattle.gms_grammar.proofs.parse.advance.Given as goal

abbrev pub invariant-loop-top : goal.invariant-loop-top
invariant-loop-top l = step (reverse l.stack.items) l.out.items l.t ≡ step (reverse l.fn.stack.items) l.fn.out.items l.t

abbrev pub decreases-loop-top : goal.decreases-loop-top
decreases-loop-top l = vec_len l.stack

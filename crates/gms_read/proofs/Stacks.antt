-- The top of a stack is the last of its vector.
use Rattle.std.proofs.lemmas.List.{reverse-reverse}
use Rattle.gms_grammar.proofs.Stacks.{reverse_push}

pub ruleset turning = (reverse_push, reverse-reverse)

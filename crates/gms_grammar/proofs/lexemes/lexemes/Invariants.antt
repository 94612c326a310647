use Rattle.std.proofs.Common.{take}
use Rattle.gms_grammar.specs.Lexemes.{AreLexemes}
use Rattle.gms_grammar.proofs.lexemes.lexemes.Given as goal

abbrev pub invariant-loop-token : goal.invariant-loop-token
invariant-loop-token l = AreLexemes l.text (take l.token-index l.tokens) l.found.items

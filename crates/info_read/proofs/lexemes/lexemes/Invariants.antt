use Rattle.std.proofs.Common.{take}
use Rattle.info_read.specs.Lexemes.{AreLexemes}
use Rattle.info_read.proofs.lexemes.lexemes.Given as goal

abbrev pub invariant-loop-token : goal.invariant-loop-token
invariant-loop-token l = AreLexemes l.text l.model (take l.token-index l.tokens) l.found.items

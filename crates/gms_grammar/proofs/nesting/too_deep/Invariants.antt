use Rattle.std.proofs.Common.{◌≡◌, ◌≤◌, drop}
use Rattle.gms_grammar.specs.Nesting.{too_deep, too_deep_from}
use Rattle.gms_grammar.proofs.nesting.too_deep.Given as goal

abbrev pub invariant-loop-lexeme : goal.invariant-loop-lexeme
invariant-loop-lexeme l = record { within : l.level ≤ 64; rest : too_deep_from l.level (drop l.lexeme-index l.lexemes) ≡ too_deep l.lexemes }

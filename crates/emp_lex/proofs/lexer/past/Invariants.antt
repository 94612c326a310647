use Rattle.std.proofs.Common.{◌≡◌, ◌≤◌, ◌+◌, drop}
use Rattle.emp_lex.specs.Tokens.{past}
use Rattle.emp_lex.proofs.lexer.past.Given as goal

abbrev pub invariant-loop-b : goal.invariant-loop-b
invariant-loop-b l = record {
  same : past l.fn.place l.bytes ≡ past l.place (drop l.b-index l.bytes);
  line : l.place.line ≤ l.fn.place.line + l.b-index;
  column : l.place.column ≤ l.fn.place.column + l.b-index;
}

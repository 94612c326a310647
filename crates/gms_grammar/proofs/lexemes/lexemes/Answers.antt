use Rattle.emp_lex.proofs.TokenBytes.{tokens_formed}
use Rattle.gms_grammar.proofs.Sorts.{tokens_narrow, are_more}
use Rattle.gms_grammar.proofs.lexemes.lexemes.Goals as goal

pub lexeme-requires-clause-formed : goal.lexeme-requires-clause-formed
lexeme-requires-clause-formed c = tokens_formed c.args.text.now c.args.tokens.now c.requires c.loop-token.token-index _ c.loop-token-test.true

pub lexeme-requires-clause-narrow : goal.lexeme-requires-clause-narrow
lexeme-requires-clause-narrow c = tokens_narrow c.args.text.now c.args.tokens.now c.requires c.loop-token.token-index _ c.loop-token-test.true

pub loop-token-preserved : goal.loop-token-preserved
loop-token-preserved c =
    rw c.in_ok-push.ensures.items
    (are_more c.args.text.now c.args.tokens.now c.loop-token.token-index c.loop-token.found.items _ c.in_ok-lexeme.field-0 c.loop-token-test.true c.loop-token.invariant c.in_ok-lexeme.ensures)

use Rattle.info_read.proofs.Lexing.{are_more}
use Rattle.info_read.proofs.lexemes.lexemes.Goals as goal

pub loop-token-preserved : goal.loop-token-preserved
loop-token-preserved c =
    rw c.in_ok-push.ensures.items
    (are_more c.args.text.now c.args.model.now c.args.tokens.now c.loop-token.token-index c.loop-token.found.items _ c.in_ok-lexeme.field-0 c.loop-token-test.true c.loop-token.invariant c.in_ok-lexeme.ensures)

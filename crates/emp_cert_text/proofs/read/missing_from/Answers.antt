use Rattle.std.proofs.Common.{rules}
use Rattle.emp_cert_text.proofs.read.missing_from.Goals as goal

pub returns-in_err-tree-clause-err : goal.returns-in_err-tree-clause-err
returns-in_err-tree-clause-err c = λ ps h.
    let f = c.in_err-tree.ensures.err c.args.sizes.base ps h in
    search rules

pub returns-clause-next : goal.returns-clause-next
returns-clause-next c = λ ps h. c.in_ok-tree.ensures.next c.args.sizes.base ps h

use Rattle.std.proofs.Common.{◌<◌, length, refl, arith}
use Rattle.emp_cert_text.specs.Course.{head_of, behind_node}
use Rattle.emp_cert_text.specs.Course.Part.{tree}
use Rattle.emp_cert_text.proofs.Places.{tree_fail, node_some}
use Rattle.emp_cert_text.proofs.read.node_from.Goals as goal

pub returns-in-Ok-clause-next : goal.returns-in-Ok-clause-next
returns-in-Ok-clause-next c = λ b ps h.
    c.behind.ensures.next (tree (head_of c.args.second b c.args.sizes.quantities c.args.sizes.pairs)) ps (behind_node (head_of c.args.second b c.args.sizes.quantities c.args.sizes.pairs) c.in-Ok.node) h c.line_at-line.ensures.line c.line_at-line.ensures.after
    (c.in-Ok.node, c.in-Ok.ensures.fits, c.in-Ok.ensures.text, refl)

pub returns-in-Ok-clause-further : goal.returns-in-Ok-clause-further
returns-in-Ok-clause-further c =
    let some : 0 < length c.line_at-line.result.now = node_some c.args.second c.in-Ok.node c.line_at-line.result.now c.in-Ok.ensures.text in
    omega (arith, c.behind.ensures.at)

pub returns-in-Err-clause-err : goal.returns-in-Err-clause-err
returns-in-Err-clause-err c = λ b ps h.
    c.at_line.ensures c.args.text.now (tree (head_of c.args.second b c.args.sizes.quantities c.args.sizes.pairs)) ps c.requires.short h (tree_fail (head_of c.args.second b c.args.sizes.quantities c.args.sizes.pairs) c.line_at-line.result.now _ c.in-Err.fault c.line_at-line.ensures.line c.in-Err.ensures.err)

use Rattle.std.proofs.Common.{◌∷◌, rules}
use Rattle.emp_cert_text.specs.Course.{head_of}
use Rattle.emp_cert_text.specs.Course.Part.{point, tree}
use Rattle.emp_cert_text.proofs.Places.{point_takes}
use Rattle.emp_cert_text.proofs.read.best_from.Goals as goal

pub returns-in_err-point-clause-err : goal.returns-in_err-point-clause-err
returns-in_err-point-clause-err c = λ ps h.
    let f = c.in_err-point.ensures.err (point c.args.sizes.base) (tree (head_of c.args.second c.args.sizes.base c.args.sizes.quantities c.args.sizes.pairs) ∷ ps) h (point_takes c.args.sizes.base _) in
    search rules

pub returns-in_err-tree-clause-err : goal.returns-in_err-tree-clause-err
returns-in_err-tree-clause-err c = λ ps h.
    let f = c.in_err-tree.ensures.err c.args.sizes.base ps (c.in_ok-point.ensures.next (point c.args.sizes.base) (tree (head_of c.args.second c.args.sizes.base c.args.sizes.quantities c.args.sizes.pairs) ∷ ps) h (point_takes c.args.sizes.base _)) in
    search rules

pub returns-clause-next : goal.returns-clause-next
returns-clause-next c = λ ps h. c.in_ok-tree.ensures.next c.args.sizes.base ps (c.in_ok-point.ensures.next (point c.args.sizes.base) (tree (head_of c.args.second c.args.sizes.base c.args.sizes.quantities c.args.sizes.pairs) ∷ ps) h (point_takes c.args.sizes.base _))

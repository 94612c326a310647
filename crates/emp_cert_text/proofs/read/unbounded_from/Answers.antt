use Rattle.std.proofs.Common.{◌∷◌, rules}
use Rattle.emp_cert_text.specs.Course.Part.{point, ray}
use Rattle.emp_cert_text.proofs.Places.{point_takes}
use Rattle.emp_cert_text.proofs.read.unbounded_from.Goals as goal

pub returns-in_err-point-clause-err : goal.returns-in_err-point-clause-err
returns-in_err-point-clause-err c = λ ps h.
    let f = c.in_err-point.ensures.err (point c.args.sizes.base) (ray c.args.sizes.base ∷ ps) h (point_takes c.args.sizes.base _) in
    search rules

pub returns-in_err-step-clause-err : goal.returns-in_err-step-clause-err
returns-in_err-step-clause-err c = λ ps h.
    let f = c.in_err-step.ensures.err ps (c.in_ok-point.ensures.next (point c.args.sizes.base) (ray c.args.sizes.base ∷ ps) h (point_takes c.args.sizes.base _)) in
    search rules

pub returns-clause-next : goal.returns-clause-next
returns-clause-next c = λ ps h. c.in_ok-step.ensures.next ps (c.in_ok-point.ensures.next (point c.args.sizes.base) (ray c.args.sizes.base ∷ ps) h (point_takes c.args.sizes.base _))

use Rattle.std.proofs.Common.{◌≡◌, ◌+◌, arith}
use Rattle.emp_cert_text.proofs.Places.{goes_on}
use Rattle.emp_cert_text.proofs.read.behind.Goals as goal

pub returns-clause-next : goal.returns-clause-next
returns-clause-next c = λ p ps qs h e f s.
    let line : c.saturating_add.result ≡ c.args.spot.line + 1 = omega (arith, h.few) in
    goes_on c.args.text.now c.args.line.now c.args.spot _ p ps qs (omega arith) line h e f s

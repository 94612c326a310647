use Rattle.std.proofs.Common.{subst, Some}
use Rattle.emp_outcomes.specs.Steps.{StoresFail}
use Rattle.emp_cert_text.specs.Upgrading.{IsUpgrade}
use Rattle.emp_outcomes.proofs.Certifying.{stored_said, stored_long}
use Rattle.emp_outcomes.proofs.certificates.stored_anew.Goals as goal

pub returns-in-Ok : goal.returns-in-Ok
returns-in-Ok c =
    stored_said c.said.result c.args.ready.now.stated.system c.args.cert c.in_ok-cert.cert c.args.name.now _ _
    (subst (λ ps. IsUpgrade c.args.cert ps c.in_ok-cert.cert) c.as_slice.ensures c.in_ok-cert.ensures) c.in-Ok.ensures.files c.in-Ok.ensures.fits c.migrated_line.ensures c.said.ensures

pub returns-in-Err-TooLong : goal.returns-in-Err-TooLong
returns-in-Err-TooLong c = stored_long c.args.ready.now.stated.system c.args.cert c.in_ok-cert.cert c.args.name.now _ (subst (λ ps. IsUpgrade c.args.cert ps c.in_ok-cert.cert) c.as_slice.ensures c.in_ok-cert.ensures) (subst (StoresFail (Some c.args.name.now) c.in_ok-cert.cert) c.in-Err-TooLong.field-0-is c.in-Err-TooLong.ensures.fault) c.long_line.ensures

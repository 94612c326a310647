use Rattle.std.proofs.Common.{subst, sym, List, ℕ}
use Rattle.emp_cert_text.specs.Words.{IsFraction}
use Rattle.emp_cert_text.proofs.Numbers.{fraction_is}
use Rattle.emp_cert_text.proofs.lines.push_fraction.Goals as goal

pub returns-in_ok-push-in-Is : goal.returns-in_ok-push-in-Is
returns-in_ok-push-in-Is c = (c.in-Is.value, c.in_ok-push-in-Is.ensures.ok, subst (λ (x : List ℕ). IsFraction x) (sym c.in-Is.ensures) (fraction_is c.in-Is.value), c.in-Is.ensures)

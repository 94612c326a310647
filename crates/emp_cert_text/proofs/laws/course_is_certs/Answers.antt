use Rattle.emp_cert_text.proofs.Back.{goes, comes}
use Rattle.emp_cert_text.proofs.Begin.{begins}
use Rattle.emp_cert_text.proofs.Same.{cert_same}
use Rattle.emp_cert_text.proofs.laws.course_is_certs.Goals as goal

pub returns : goal.returns
returns c = record { goes = goes; comes = comes; one = cert_same; begins = begins }

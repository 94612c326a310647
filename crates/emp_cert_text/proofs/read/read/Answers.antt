use Rattle.emp_cert_text.proofs.Same.{each_read}
use Rattle.emp_cert_text.proofs.read.read.Goals as goal

pub returns-clause-each : goal.returns-clause-each
returns-clause-each c = λ d l e. each_read c.args.text.now d c.read_short.result c.read_short.ensures.text c.read_short.ensures.err l e

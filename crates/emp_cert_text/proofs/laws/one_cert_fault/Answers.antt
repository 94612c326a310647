use Rattle.emp_cert_text.proofs.OneFault as OneFault
use Rattle.emp_cert_text.proofs.laws.one_cert_fault.Goals as goal

pub returns : goal.returns
returns c = OneFault.one_cert_fault

use Rattle.std.proofs.Common.{subst}
use Rattle.emp_command.specs.Requests.{asked_of}
use Rattle.emp_command.specs.Course.{IsInRange}
use Rattle.emp_command.proofs.OneRequest.{one_request}
use Rattle.emp_engine.proofs.Ending.{bad_words_ends}
use Rattle.emp_engine.proofs.run.obey.Goals as goal

pub returns-in-None-clause-ends : goal.returns-in-None-clause-ends
returns-in-None-clause-ends g c = bad_words_ends _ _ _ _ _ _ c.in-None.ensures c.refuse.ensures.told c.refuse.ensures.ends

pub returns-in-Some-clause-range : goal.returns-in-Some-clause-range
returns-in-Some-clause-range g c h = c.fulfil.ensures.range (subst (λ q. IsInRange q → ⊥) (one_request _ h.0 (asked_of c.in-Some.request) h.1 c.in-Some.ensures) h.2)

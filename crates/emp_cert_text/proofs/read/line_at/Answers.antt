use Rattle.std.proofs.Common.{refl}
use Rattle.std.specs.List.{slice_range}
use Rattle.emp_cert_text.proofs.Reading.{line_is}
use Rattle.emp_cert_text.proofs.read.line_at.Goals as goal

pub returns-clause-rest : goal.returns-clause-rest
returns-clause-rest c = (line_is c.args.text.now c.args.from c.line_end.result (slice_range c.args.text.now c.args.from c.line_end.result) c.line_end.ensures.from c.line_end.ensures.within refl).rest

pub returns-clause-within : goal.returns-clause-within
returns-clause-within c = (line_is c.args.text.now c.args.from c.line_end.result (slice_range c.args.text.now c.args.from c.line_end.result) c.line_end.ensures.from c.line_end.ensures.within refl).within

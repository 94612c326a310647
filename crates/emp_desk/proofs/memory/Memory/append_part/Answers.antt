use Rattle.std.proofs.Common.{◌≡◌, ◌++◌, OnOk, subst}
use Rattle.emp_desk.specs.Memory.{output_of}
use Rattle.emp_desk.proofs.Parts.{part_said}
use Rattle.emp_desk.proofs.memory.Memory.append_part.Goals as goal

pub returns-clause-said : goal.returns-clause-said
returns-clause-said c = part_said c.append.result c.args.bytes.now c.args.most c.args.self.now c.append.new.self (subst (λ part. OnOk c.append.result (output_of c.append.new.self ≡ output_of c.args.self.now ++ part)) c.first.ensures.bytes c.append.ensures.ok) c.append.ensures.err c.append.ensures.files

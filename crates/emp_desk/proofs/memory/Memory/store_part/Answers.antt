use Rattle.std.proofs.Common.{OnOk, subst}
use Rattle.emp_desk.specs.Files.{Puts}
use Rattle.emp_desk.specs.Memory.{files_of}
use Rattle.emp_desk.proofs.Parts.{part_stored}
use Rattle.emp_desk.proofs.memory.Memory.store_part.Goals as goal

pub returns : goal.returns
returns c = part_stored c.store.result c.args.name.now c.args.bytes.now c.args.most c.args.self.now c.store.new.self (subst (λ part. OnOk c.store.result (Puts c.args.name.now part (files_of c.args.self.now) (files_of c.store.new.self))) c.first.ensures.bytes c.store.ensures.ok) c.store.ensures.err c.store.ensures.output

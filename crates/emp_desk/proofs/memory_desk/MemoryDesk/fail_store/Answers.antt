use Rattle.emp_desk.proofs.Parts.{removed_is_part}
use Rattle.emp_desk.proofs.memory_desk.MemoryDesk.fail_store.Goals as goal

pub returns-in-Err-clause-cut : goal.returns-in-Err-clause-cut
returns-in-Err-clause-cut c = removed_is_part c.args.name.now c.args.bytes.now c.args.self.now.memory c.remove.new.self c.remove.ensures.files c.remove.ensures.output

use Rattle.emp_desk.proofs.Entries.{one_more, store_entry}
use Rattle.emp_desk.proofs.call_log.CallLog.note_store.Goals as goal

pub returns-clause-ok : goal.returns-clause-ok
returns-clause-ok c = one_more _ _ c.args.self.now.failed.items c.push.new.self.items (store_entry c.args.name.now c.in_ok-name.name c.in_ok-name.ensures.ok) c.in_ok-push.ensures.items

use Rattle.emp_desk.specs.Desk.{stores}
use Rattle.emp_desk.specs.CallLog.{count_in}
use Rattle.emp_desk.proofs.Counts.{store_after, store_rose, store_none_falls, store_only_at}
use Rattle.emp_desk.proofs.Parts.{removed_is_part}
use Rattle.emp_desk.proofs.memory_desk.MemoryDeskDesk.store.Goals as goal

pub returns-then-count_call-clause-failed : goal.returns-then-count_call-clause-failed
returns-then-count_call-clause-failed c = store_rose (stores c.args.name.now) (count_in c.args.self.now.log) (count_in c.count_call.new.self) (count_in c.fail_store.new.self.log) c.fail_store.result c.count_call.ensures.counts c.fail_store.ensures.counts

pub returns-then-count_call-clause-none_falls : goal.returns-then-count_call-clause-none_falls
returns-then-count_call-clause-none_falls c = store_none_falls (stores c.args.name.now) (count_in c.args.self.now.log) (count_in c.count_call.new.self) (count_in c.fail_store.new.self.log) c.fail_store.result c.count_call.ensures.counts c.fail_store.ensures.counts

pub returns-then-count_call-clause-others : goal.returns-then-count_call-clause-others
returns-then-count_call-clause-others c = store_only_at (stores c.args.name.now) (count_in c.args.self.now.log) (count_in c.count_call.new.self) (count_in c.fail_store.new.self.log) c.fail_store.result c.count_call.ensures.counts c.fail_store.ensures.counts

pub returns-then-count_call-clause-counts : goal.returns-then-count_call-clause-counts
returns-then-count_call-clause-counts c = store_after (stores c.args.name.now) (count_in c.args.self.now.log) (count_in c.count_call.new.self) (count_in c.fail_store.new.self.log) c.fail_store.result c.count_call.ensures.counts c.fail_store.ensures.counts

pub returns-in-Err-clause-cut : goal.returns-in-Err-clause-cut
returns-in-Err-clause-cut c = removed_is_part c.args.name.now c.args.bytes.now c.args.self.now.memory c.store.new.self c.in-Err.ensures.err c.in-Err.ensures.output

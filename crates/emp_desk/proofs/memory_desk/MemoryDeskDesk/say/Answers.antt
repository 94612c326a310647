use Rattle.emp_desk.specs.Desk.{output}
use Rattle.emp_desk.specs.CallLog.{count_in}
use Rattle.emp_desk.proofs.Counts.{store_after, store_rose, store_none_falls, store_only_at}
use Rattle.emp_desk.proofs.memory_desk.MemoryDeskDesk.say.Goals as goal

pub returns-then-count_call-clause-failed : goal.returns-then-count_call-clause-failed
returns-then-count_call-clause-failed c = store_rose output (count_in c.args.self.now.log) (count_in c.count_call.new.self) (count_in c.fail_say.new.self.log) c.fail_say.result c.count_call.ensures.counts c.fail_say.ensures.counts

pub returns-then-count_call-clause-none_falls : goal.returns-then-count_call-clause-none_falls
returns-then-count_call-clause-none_falls c = store_none_falls output (count_in c.args.self.now.log) (count_in c.count_call.new.self) (count_in c.fail_say.new.self.log) c.fail_say.result c.count_call.ensures.counts c.fail_say.ensures.counts

pub returns-then-count_call-clause-others : goal.returns-then-count_call-clause-others
returns-then-count_call-clause-others c = store_only_at output (count_in c.args.self.now.log) (count_in c.count_call.new.self) (count_in c.fail_say.new.self.log) c.fail_say.result c.count_call.ensures.counts c.fail_say.ensures.counts

pub returns-then-count_call-clause-counts : goal.returns-then-count_call-clause-counts
returns-then-count_call-clause-counts c = store_after output (count_in c.args.self.now.log) (count_in c.count_call.new.self) (count_in c.fail_say.new.self.log) c.fail_say.result c.count_call.ensures.counts c.fail_say.ensures.counts

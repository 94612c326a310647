use Rattle.emp_desk.specs.CallLog.{count_in}
use Rattle.emp_desk.proofs.Counts.{load_after, load_rose, load_none_falls, load_only_at}
use Rattle.emp_desk.proofs.memory_desk.MemoryDeskDesk.load.Goals as goal

pub returns-then-is_to_fail-clause-failed : goal.returns-then-is_to_fail-clause-failed
returns-then-is_to_fail-clause-failed c = load_rose c.args.name.now (count_in c.args.self.now.log) (count_in c.count_call-is_to_fail.new.self) (count_in c.fail_load.new.self.log) c.fail_load.result c.count_call-is_to_fail.ensures.counts c.fail_load.ensures.counts

pub returns-then-is_to_fail-clause-none_falls : goal.returns-then-is_to_fail-clause-none_falls
returns-then-is_to_fail-clause-none_falls c = load_none_falls c.args.name.now (count_in c.args.self.now.log) (count_in c.count_call-is_to_fail.new.self) (count_in c.fail_load.new.self.log) c.fail_load.result c.count_call-is_to_fail.ensures.counts c.fail_load.ensures.counts

pub returns-then-is_to_fail-clause-others : goal.returns-then-is_to_fail-clause-others
returns-then-is_to_fail-clause-others c = load_only_at c.args.name.now (count_in c.args.self.now.log) (count_in c.count_call-is_to_fail.new.self) (count_in c.fail_load.new.self.log) c.fail_load.result c.count_call-is_to_fail.ensures.counts c.fail_load.ensures.counts

pub returns-then-is_to_fail-clause-counts : goal.returns-then-is_to_fail-clause-counts
returns-then-is_to_fail-clause-counts c = load_after c.args.name.now (count_in c.args.self.now.log) (count_in c.count_call-is_to_fail.new.self) (count_in c.fail_load.new.self.log) c.fail_load.result c.count_call-is_to_fail.ensures.counts c.fail_load.ensures.counts

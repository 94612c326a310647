use Rattle.std.proofs.Common.{◌-◌, refl, sym, ◌∙◌}
use Rattle.emp_walk.proofs.Starting.{start_pending, start_fits, end_whole, fault_whole, answer_whole, verdict_whole}
use Rattle.emp_walk.proofs.search.search_on.Goals as goal

pub run-requires : goal.run-requires
run-requires g c = start_fits c.args.system.now c.args.budget.limit c.args.budget.used c.args.nodes c.in-Ok.course c.in-Ok.ensures

pub returns-in-Err-clause-search : goal.returns-in-Err-clause-search
returns-in-Err-clause-search g c = fault_whole c.args.system.now c.args.budget.limit c.args.budget.used c.args.nodes c.in-Ok.course c.in-Err.fault c.in-Ok.ensures c.in-Err.ensures

pub verdict-requires-clause-whole : goal.verdict-requires-clause-whole
verdict-requires-clause-whole g c =
    let r = c.in-Ok-run.ensures in
    end_whole c.args.system.now c.args.budget.limit (c.args.budget.limit - c.args.budget.used) c.args.nodes c.run.new.course c.in-Ok-run.end (sym (start_pending c.args.system.now c.args.budget.limit c.args.budget.used c.args.nodes c.in-Ok.course c.in-Ok.ensures) ∙ r.same)

pub returns-in-Ok-verdict-clause-search : goal.returns-in-Ok-verdict-clause-search
returns-in-Ok-verdict-clause-search g c =
    answer_whole c.args.system.now c.args.budget.limit c.args.budget.used c.args.nodes c.in-Ok.course c.run.new.course c.in-Ok-run.end c.in-Ok-verdict.verdict c.run.new.course.budget.used c.run.new.course.nodes c.in-Ok.ensures c.in-Ok-run.ensures c.in-Ok-verdict.ensures refl refl
    (record { verdict = c.in-Ok-verdict.verdict; work = c.run.new.course.budget.used; nodes = c.run.new.course.nodes }) refl refl refl

pub returns-in-Ok-verdict-clause-fits : goal.returns-in-Ok-verdict-clause-fits
returns-in-Ok-verdict-clause-fits g c = verdict_whole c.args.system.now c.args.budget.limit c.args.budget.used c.args.nodes c.in-Ok.course c.run.new.course c.in-Ok-run.end c.in-Ok-verdict.verdict c.in-Ok.ensures c.in-Ok-run.ensures c.in-Ok-verdict.ensures

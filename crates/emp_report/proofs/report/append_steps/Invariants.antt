use Rattle.std.proofs.Common.{◌≡◌, ◌++◌, map, take}
use Rattle.emp_report.specs.Report.{step_lines}
use Rattle.emp_report.proofs.report.append_steps.Given as goal

abbrev pub invariant-loop-at : goal.invariant-loop-at
invariant-loop-at l = l.out.items ≡ l.fn.out.items ++ step_lines (take l.at (map (λ v. v.name) l.variables)) (take l.at l.step)

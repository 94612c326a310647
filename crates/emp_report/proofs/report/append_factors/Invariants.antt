use Rattle.std.proofs.Common.{◌≡◌, ◌++◌, take}
use Rattle.emp_report.specs.Report.{factors_text}
use Rattle.emp_report.proofs.report.append_factors.Given as goal

abbrev pub invariant-loop-factor : goal.invariant-loop-factor
invariant-loop-factor l = l.out.items ≡ l.fn.out.items ++ factors_text (take l.factor-index l.factors)

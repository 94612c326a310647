use Rattle.std.proofs.Common.{◌∙◌, arith}
use Rattle.emp_line.proofs.Seeds.{content_next}
use Rattle.emp_line.proofs.divide.content_within.Goals as goal

pub loop-k-preserved : goal.loop-k-preserved
loop-k-preserved c = content_next c.loop-k.divider.divisor c.common_divider-divider.result.divisor c.args.row.now c.loop-k.k (omega arith) c.common_divider-divider.ensures ∙ c.loop-k.invariant

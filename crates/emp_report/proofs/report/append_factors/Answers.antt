use Rattle.std.proofs.Common.{◌<◌, pos, length, get_or, arith, rules}
use Rattle.std.proofs.lemmas.Int.{to_z-of_z}
use mir.Val.{SFits}
use mir.Syntax.{w128}
use Rattle.emp_report.proofs.ReportLemmas.{more_factors}
use Rattle.emp_report.proofs.report.append_factors.Goals as goal

pub loop-factor-preserved : goal.loop-factor-preserved
loop-factor-preserved c =
    let h : c.loop-factor.factor-index < length c.args.factors.now = omega arith in
    let step = more_factors c.args.out.now.items c.loop-factor.out.items c.args.factors.now c.loop-factor.factor-index h c.loop-factor.invariant in
    let fits : SFits w128 (get_or c.args.factors.now c.loop-factor.factor-index (pos 0)) = search rules in
    let first = c.in_ok-append.ensures in
    let second = simp to_z-of_z at c.in_ok-append_number.ensures in
    cc

use Rattle.std.proofs.Common.{sym}
use Rattle.emp_outcomes.proofs.Certifying.{rejected_tried, wide_tried}
use Rattle.emp_outcomes.proofs.certificates.test.Goals as goal

pub returns-in-Rejected : goal.returns-in-Rejected
returns-in-Rejected c ct t = rejected_tried c.args.model.now c.args.annot.now ct c.args.ready.stated c.args.cert c.in-Rejected.node c.in-Rejected.why _ c.requires.ready.stated t (sym c.in-Rejected.ensures.exact) (ap_line c.rejected_line.ensures)
  where
    ap_line : {A : Type 0} → A → A
    ap_line x = x

pub returns-in-Wide : goal.returns-in-Wide
returns-in-Wide c ct t = wide_tried c.args.model.now c.args.annot.now ct c.args.ready.stated c.args.cert c.in-Wide.node _ c.requires.ready.stated t (sym c.in-Wide.ensures.exact) c.sum_line.ensures

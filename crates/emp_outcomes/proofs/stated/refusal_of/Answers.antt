use Rattle.std.proofs.Common.{Err, subst}
use Rattle.emp_outcomes.specs.Steps.{ReadyGives}
use Rattle.emp_outcomes.proofs.Refusing.{owner_refused, rows_refused}
use Rattle.emp_outcomes.proofs.stated.refusal_of.Goals as goal

pub returns-in-Owner : goal.returns-in-Owner
returns-in-Owner c a h = owner_refused c.own_refusal.result c.args.model.now a c.in-Owner.fault (subst (λ f. ReadyGives c.args.model.now a (Err f)) c.in-Owner.is h) c.own_refusal.ensures

pub returns-in-Rows : goal.returns-in-Rows
returns-in-Rows c a h =
    let g = subst (λ f. ReadyGives c.args.model.now a (Err f)) c.in-Rows.is h in
    rows_refused c.state_refusal.result c.args.model.now a c.in-Rows.fault g.0 g.1 c.state_refusal.ensures

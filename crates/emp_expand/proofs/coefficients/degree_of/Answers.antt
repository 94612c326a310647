use Rattle.emp_expand.proofs.coefficients.degree_of.Goals as goal

pub returns-in-Some-default : goal.returns-in-Some-default
returns-in-Some-default c = (c.in-Some-default.field-0-0, c.args.at.1, λ i. (c.in-Some-default.is-0 i, c.args.at.1))

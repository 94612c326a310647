use Rattle.emp_expand.proofs.DegreeLaws.{degree_all, degree_none}
use Rattle.emp_expand.proofs.coefficients.Coefficients.degree.Goals as goal

pub returns-in-Some : goal.returns-in-Some
returns-in-Some c = degree_all c.args.self.now c.in-Some.at.now c.in-Some.field-0-1.now c.degree_of.result c.in-Some.ensures.value c.in-Some.ensures.greatest c.degree_of.ensures

pub returns-in-None : goal.returns-in-None
returns-in-None c = degree_none c.args.self.now c.in-None.ensures.variant.1

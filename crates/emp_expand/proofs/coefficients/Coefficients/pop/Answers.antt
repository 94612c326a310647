use Rattle.std.proofs.Common.{arith, ap, ◌∙◌}
use Rattle.std.specs.BTreeMap.{is_at}
use Rattle.std.specs.Map.{lookup}
use Rattle.emp_expand.specs.Factors.{factor, count, monomial_cmp}
use Rattle.emp_expand.proofs.Keys.{apart, lookup_empty}
use Rattle.emp_expand.proofs.coefficients.Coefficients.pop.Goals as goal

pub returns-in-Some-clause-was : goal.returns-in-Some-clause-was
unfolding factor
returns-in-Some-clause-was c = c.in-Some.ensures.value

pub returns-in-Some-clause-gone : goal.returns-in-Some-clause-gone
unfolding factor
returns-in-Some-clause-gone c = c.in-Some.ensures.updates.1

pub returns-in-Some-clause-others : goal.returns-in-Some-clause-others
unfolding factor
returns-in-Some-clause-others c = λ q ne. c.in-Some.ensures.updates.2 q (apart c.in-Some.at q ne)

pub returns-in-Some-clause-fewer : goal.returns-in-Some-clause-fewer
unfolding count
returns-in-Some-clause-fewer c = omega (arith, c.in-Some.ensures.len)

pub returns-in-None-clause-was : goal.returns-in-None-clause-was
unfolding factor
returns-in-None-clause-was c = λ q. lookup_empty (is_at (monomial_cmp q)) c.args.self.now.terms.entries c.in-None.ensures.variant.1

pub returns-in-None-clause-gone : goal.returns-in-None-clause-gone
unfolding factor
returns-in-None-clause-gone c =
    λ q. ap (λ es. lookup (is_at (monomial_cmp q)) es) c.in-None.ensures.unchanged ∙ lookup_empty (is_at (monomial_cmp q)) c.args.self.now.terms.entries c.in-None.ensures.variant.1

use Rattle.std.proofs.Common.{sym, subst}
use Rattle.std.specs.List.Sorted.{IsStrictlySortedBy}
use Rattle.emp_expand.specs.Factors.{products_of, monomial_cmp}
use Rattle.emp_expand.proofs.coefficients.Coefficients.products.Goals as goal

pub returns-clause-all : goal.returns-clause-all
unfolding products_of
returns-clause-all c = c.in_ok-all.ensures.all

pub returns-clause-rising : goal.returns-clause-rising
returns-clause-rising c = subst (λ ks. IsStrictlySortedBy monomial_cmp ks) (sym c.in_ok-all.ensures.all) c.in_ok-all.ensures.rising

-- The coefficients that are there, as a function of the product of variables.
use Rattle.std.specs.Prelude.{ℕ, Option, Some, None, List, [], ◌∷◌, cond, nat_lt, ◌≡◌, ◌⊎◌}
use Rattle.std.specs.Ordering.{nat_cmp, ordering_then}
use Rattle.std.specs.declared.cmp.Ordering.{Ordering}
use Rattle.std.specs.Option.{option_cmp}
use Rattle.std.specs.BTreeMap.{get, btree_map_len, keys}
use Rattle.emp_num.specs.Whole.{whole}
use Rattle.emp_num.specs.declared.frac.Frac.{Frac}
use Rattle.emp_form.specs.Form.{Monomial}
use Rattle.emp_form.specs.Wide.{Fractions}
use Rattle.emp_expand.specs.declared.coefficients.Coefficients.{Coefficients}

abbrev pub monomial_cmp : Monomial → Monomial → Ordering
monomial_cmp x y = ordering_then (option_cmp nat_cmp x.0 y.0) (option_cmp nat_cmp x.1 y.1)

unfoldable pub factor : Coefficients → Monomial → Option Frac
factor c q = get monomial_cmp c.terms q

unfoldable pub count : Coefficients → ℕ
count c = btree_map_len c.terms

-- the products of variables that have a coefficient, in rising order
unfoldable pub products_of : Coefficients → List Monomial
products_of c = keys c.terms

-- none stands for 0
abbrev pub or_zero : Option Frac → Frac
or_zero (Some f) = f
or_zero None = whole 0

abbrev pub fractions : Coefficients → Fractions
fractions c q = or_zero (factor c q)

abbrev pub ordered : ℕ → ℕ → Monomial
ordered i j = cond (nat_lt j i) (Some j, Some i) (Some i, Some j)

abbrev pub In : Monomial → List Monomial → Type 0
In q [] = ⊥
In q (k ∷ ks) = (k ≡ q) ⊎ In q ks

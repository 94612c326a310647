-- The numbers of a market's model have decimals, so that its text is printed.
use Rattle.std.proofs.Common.{◌≡◌, ◌⊎◌, inl, inr, ℕ, ◌+◌, ◌-◌, ◌<◌, ◌≤◌, ◌^◌, Bool, true, false, cond, nat_lt, get_or, Some, arith, refl, sym, subst}
use Rattle.std.specs.Prelude.{slice_get, unsigned_abs}
use Rattle.std.proofs.lemmas.Option.{get_or_from_slice_get, slice_get-get_or}
use Rattle.std.proofs.lemmas.Nat.Gcd.{dvd_refl}
use Rattle.emp_num.specs.Whole.{whole, whole_by}
use Rattle.emp_ast.specs.declared.tree.Tree.{Tree}
use Rattle.emp_ast.specs.declared.tree.Operator.TheVariants.{Minus}
use Rattle.emp_ast.specs.declared.model.Equation.{Equation}
use Rattle.emp_ast.specs.declared.model.Variable.{Variable}
use Rattle.emp_ast.specs.declared.model.Model.{Model}
use Rattle.emp_ast.specs.Expression.{Expression, number, variable, joined, expression_of}
use Rattle.emp_ast.proofs.Nodes.{nodes_of}
use Rattle.gms_print.specs.Decimals.{HasDecimal, HasPlaces}
use Rattle.gms_print.specs.Marks.{HasDecimals, IsPrintable}
use Rattle.gms_print.specs.Lines.{IsPrintableEquation, IsPrintableVariable, IsPrintableModel}
use Rattle.emp_make.specs.Markets.{demand, cost, cap, has_rival, first_of_market, quantity, price, profit, profit_variable, quantity_variable, IsProfitEquation, IsMarketModel}

whole_by_one : (n : ℕ) (b : Bool) (e : nat_lt n (2 ^ 126) ≡ b) → unsigned_abs (whole_by n b e).den ≡ 1
whole_by_one n true e = refl
whole_by_one n false e = refl

pub whole_decimal : (n : ℕ) → HasDecimal (whole n)
whole_decimal n = subst HasPlaces (sym (whole_by_one n (nat_lt n (2 ^ 126)) refl)) (record { places = 0; few = omega arith; divides = dvd_refl 1 })

cond_decimals : (b : Bool) (e f : Expression) → HasDecimals e → HasDecimals f → HasDecimals (cond b e f)
cond_decimals true e f h k = h
cond_decimals false e f h k = k

price_decimals : (seed firms k : ℕ) → HasDecimals (price seed firms k)
price_decimals seed firms k =
    let d = whole_decimal (demand seed k) in
    cond_decimals (has_rival firms k)
    (joined Minus (joined Minus (number (whole (demand seed k))) (variable (quantity firms (first_of_market k)))) (variable (quantity firms (first_of_market k + 1))))
    (joined Minus (number (whole (demand seed k))) (variable (quantity firms k)))
    ((d, tt), tt) (d, tt)

profit_decimals : (seed firms k : ℕ) → HasDecimals (profit seed firms k)
profit_decimals seed firms k = ((price_decimals seed firms k, tt), (whole_decimal (cost seed k), tt))

printable_tree : (t : Tree) (e : Expression) → expression_of t.nodes ≡ e → HasDecimals e → IsPrintable t
printable_tree t e is h = record { expression = expression_of t.nodes; is = nodes_of t.nodes t.whole; decimals = subst HasDecimals (sym is) h }

printable_equation : (seed firms k : ℕ) (e : Equation) → IsProfitEquation seed firms k e → IsPrintableEquation e
printable_equation seed firms k e h = record { left = printable_tree e.left (variable k) h.left tt; right = printable_tree e.right (profit seed firms k) h.right (profit_decimals seed firms k) }

-- the first firms' variables, and then the others
below_or_above : (k n : ℕ) → k < n + n → (k < n) ⊎ ((j : ℕ) × (j < n) × (k ≡ n + j))
below_or_above k n h = go (less k n)
  where
    less : (i j : ℕ) → (i < j) ⊎ (j ≤ i)
    less i j = grind arith

    go : (k < n) ⊎ (n ≤ k) → (k < n) ⊎ ((j : ℕ) × (j < n) × (k ≡ n + j))
    go (inl l) = inl l
    go (inr l) = inr (k - n, omega (arith, l, h), omega (arith, l))

printable_at : (seed firms : ℕ) (m : Model) (k : ℕ) (d : Variable) → IsMarketModel seed firms m → (k < firms) ⊎ ((j : ℕ) × (j < firms) × (k ≡ firms + j)) → IsPrintableVariable (get_or m.variables k d)
printable_at seed firms m k d h (inl l) = subst IsPrintableVariable (sym (get_or_from_slice_get m.variables k (profit_variable k) d (h.profits k l))) (record { low = tt; high = tt })
printable_at seed firms m k d h (inr (j, l, e)) =
    subst IsPrintableVariable (sym (get_or_from_slice_get m.variables k (quantity_variable seed j) d (subst (λ i. slice_get m.variables i ≡ Some (quantity_variable seed j)) (sym e) (h.quantities j l))))
    (record { low = whole_decimal 0; high = whole_decimal (cap seed j) })

pub market_printable : (seed firms : ℕ) (m : Model) → IsMarketModel seed firms m → IsPrintableModel m
market_printable seed firms m h = record {
  equations = λ k d l. printable_equation seed firms k (get_or m.equations k d) (h.each k (get_or m.equations k d) (slice_get-get_or m.equations k d l));
  variables = λ k d l. printable_at seed firms m k d h (below_or_above k firms (subst (λ n. k < n) h.variables l));
}

-- The parts of a market, as they are made, are those of its definition.
use Rattle.std.proofs.Common.{◌≡◌, ℕ, ◌+◌, ◌<◌, ◌≤◌, Bool, true, false, cond, List, [], ◌∷◌, ◌++◌, length, Some, length-append, sym, ap, subst, ◌∙◌}
use Rattle.std.specs.List.{slice_get}
use Rattle.std.proofs.lemmas.Bool.{lt-ltb, le-ltb}
use Rattle.emp_num.specs.declared.frac.Frac.{Frac}
use Rattle.emp_num.specs.Whole.{whole}
use Rattle.emp_ast.specs.declared.model.Equation.{Equation}
use Rattle.emp_ast.specs.declared.model.End.TheVariants.{At}
use Rattle.emp_ast.specs.declared.model.Variable.{Variable}
use Rattle.emp_ast.specs.declared.annot.Block.{Block}
use Rattle.emp_ast.specs.Expression.{Expression, number}
use Rattle.emp_make.specs.Markets.{demand, cost, first_of_market, has_rival, quantity, profit, profit_variable, quantity_variable, firm_block, IsProfitEquation}
use Rattle.emp_make.specs.Parts.{less, earned, profit_variables, quantity_variables, firm_blocks, AreProfitEquations}
use Rattle.emp_make.proofs.Lists.{made_at, made_length, at_before, at_behind, each_more}

-- ---- variables
pub same_variable : (m n : List ℕ) (k l g h : Frac) → m ≡ n → k ≡ l → g ≡ h → ◌≡◌ {A = Variable} (record { name = m; low = At k; high = At g }) (record { name = n; low = At l; high = At h })
same_variable m n k l g h p q r = λ i. record { name = p i; low = At (q i); high = At (r i) }

-- ---- equations
priced : (b t : Bool) (x y : Expression) (c : Frac) (own : ℕ) → b ≡ t → earned (cond t x y) c own ≡ earned (cond b x y) c own
priced b t x y c own e = ap (λ (s : Bool). earned (cond s x y) c own) (sym e)

pub shared_is : (seed firms k : ℕ) (d c : Frac) (first second own : ℕ) → d ≡ whole (demand seed k) → c ≡ whole (cost seed k) → first ≡ quantity firms (first_of_market k) → second ≡ quantity firms (first_of_market k + 1) → own ≡ quantity firms k → first_of_market k + 1 < firms → earned (less (less (number d) first) second) c own ≡ profit seed firms k
shared_is seed firms k d c first second own p q r s t h =
    let there : has_rival firms k ≡ true = lt-ltb (first_of_market k + 1) firms h in
    let parts : earned (less (less (number d) first) second) c own ≡ earned (less (less (number (whole (demand seed k))) (quantity firms (first_of_market k))) (quantity firms (first_of_market k + 1))) (whole (cost seed k)) (quantity firms k) =
    (λ i. earned (less (less (number (p i)) (r i)) (s i)) (q i) (t i)) in
    parts ∙ priced (has_rival firms k) true _ _ (whole (cost seed k)) (quantity firms k) there

pub lone_is : (seed firms k : ℕ) (d c : Frac) (own : ℕ) → d ≡ whole (demand seed k) → c ≡ whole (cost seed k) → own ≡ quantity firms k → firms ≤ first_of_market k + 1 → earned (less (number d) own) c own ≡ profit seed firms k
lone_is seed firms k d c own p q t h =
    let none : has_rival firms k ≡ false = le-ltb (first_of_market k + 1) firms h in
    let parts : earned (less (number d) own) c own ≡ earned (less (number (whole (demand seed k))) (quantity firms k)) (whole (cost seed k)) (quantity firms k) =
    (λ i. earned (less (number (p i)) (t i)) (q i) (t i)) in
    parts ∙ priced (has_rival firms k) false _ _ (whole (cost seed k)) (quantity firms k) none

pub equations_more : (seed firms n : ℕ) (es new : List Equation) (e : Equation) → AreProfitEquations seed firms n es → IsProfitEquation seed firms n e → new ≡ es ++ e ∷ [] → AreProfitEquations seed firms (n + 1) new
equations_more seed firms n es new e h one is = record {
  count = ap length is ∙ (length-append es (e ∷ []) ∙ ap (λ i. i + 1) h.count);
  each = λ k x q. each_more (λ i y. IsProfitEquation seed firms i y) es e h.each (subst (λ i. IsProfitEquation seed firms i e) (sym h.count) one) k x (sym (ap (λ xs. slice_get xs k) is) ∙ q);
}

-- ---- the model and the annotation
pub profits_at : (seed n k : ℕ) (vs : List Variable) → vs ≡ profit_variables n ++ quantity_variables seed n → k < n → slice_get vs k ≡ Some (profit_variable k)
profits_at seed n k vs e h = ap (λ xs. slice_get xs k) e ∙ at_before (profit_variables n) (quantity_variables seed n) k (profit_variable k) (made_at profit_variable n k h)

pub quantities_at : (seed n k : ℕ) (vs : List Variable) → vs ≡ profit_variables n ++ quantity_variables seed n → k < n → slice_get vs (quantity n k) ≡ Some (quantity_variable seed k)
quantities_at seed n k vs e h = ap (λ xs. slice_get xs (n + k)) e ∙ (at_behind (profit_variables n) (quantity_variables seed n) n k (made_length profit_variable n) ∙ made_at (quantity_variable seed) n k h)

pub variables_count : (seed n : ℕ) (vs : List Variable) → vs ≡ profit_variables n ++ quantity_variables seed n → length vs ≡ n + n
variables_count seed n vs e =
    ap length e ∙ (length-append (profit_variables n) (quantity_variables seed n) ∙ (ap (λ i. i + length (quantity_variables seed n)) (made_length profit_variable n) ∙ ap (λ i. n + i) (made_length (quantity_variable seed) n)))

pub blocks_at : (n k : ℕ) (bs : List Block) → bs ≡ firm_blocks n n → k < n → slice_get bs k ≡ Some (firm_block n k)
blocks_at n k bs e h = ap (λ xs. slice_get xs k) e ∙ made_at (firm_block n) n k h

pub blocks_count : (n : ℕ) (bs : List Block) → bs ≡ firm_blocks n n → length bs ≡ n
blocks_count n bs e = ap length e ∙ made_length (firm_block n) n

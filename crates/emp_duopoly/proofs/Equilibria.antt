-- Each generated market has an equilibrium.
use Rattle.std.proofs.Common.{◌≡◌, ◌⊎◌, inl, inr, ℕ, ◌<◌, ◌≤◌, ℤ, pos, ◌+ℤ◌, ◌-ℤ◌, ◌*ℤ◌, ◌≤ℤ◌, ◌<ℤ◌, Bool, true, false, List, [], ◌∷◌, length, get_or, Some, None, arith, refl, sym, ap, subst, subst₂, ◌∙◌}
use Rattle.std.specs.List.{slice_get}
use Rattle.std.proofs.lemmas.Int.{ints}
use Rattle.std.proofs.lemmas.Bool.{false≢true}
use Rattle.std.proofs.lemmas.Option.{slice_get_within, slice_get_cases}
use lib.IntN.{zero-*ℤ}
use Rattle.emp_algebra.proofs.Order.{cancel_right}
use Rattle.emp_algebra.proofs.Ring.{var, lit, ◌⊕◌, ◌⊖◌, ◌⊗◌, by_ring}
use Rattle.emp_algebra.specs.Vector.{cell}
use Rattle.emp_num.specs.Ratio.{ratio}
use Rattle.emp_num.specs.Point.{Point, coordinate}
use Rattle.emp_num.specs.Whole.{whole}
use Rattle.emp_ast.specs.declared.model.Equation.{Equation}
use Rattle.emp_ast.specs.declared.model.End.TheVariants.{At}
use Rattle.emp_ast.specs.declared.model.Sense.TheVariants.{Max}
use Rattle.emp_ast.specs.declared.model.Variable.{Variable}
use Rattle.emp_ast.specs.declared.model.Model.{Model}
use Rattle.emp_ast.specs.declared.annot.Annot.{Annot}
use Rattle.emp_ast.specs.Meets.{IsAbove, IsBelow, MeetsEquation, MeetsBounds}
use Rattle.emp_ast.specs.Parties.{block}
use Rattle.emp_ast.specs.Rivals.{IsRival, IsFeasible}
use Rattle.emp_ast.specs.Solved.{IsBetter, NoRivalIsBetter, IsSolved}
use Rattle.emp_make.specs.Markets.{demand, cost, cap, quantity, profit_variable, quantity_variable, has_rival, IsMarketModel, IsMarket}
use Rattle.emp_duopoly.specs.Laws.{MarketsHaveEquilibria}
use Rattle.emp_duopoly.proofs.Firms.{ranges, amount, others, others_alone, is_answer, rival}
use Rattle.emp_duopoly.proofs.Profits.{IsEarned, IsWhole, is_whole, no_gain}
use Rattle.emp_duopoly.proofs.Amounts.{earning, numbers, point, length-numbers, profit_is, quantity_is}
use Rattle.emp_duopoly.proofs.Equations.{amount_at, sold, earns, met_by, sold_alone, sold_with, others_stand}
use Rattle.emp_duopoly.proofs.Blocks.{own_quantity, own_cases, not_own, meets_own, not_priced}

-- ---- the point meets each equation
-- the sum of the own amount x and that of the others, o, earns what the point has
earned_at : (a c o x P S Q : ℤ) → P ≡ (pos 6 *ℤ (a -ℤ c) -ℤ o -ℤ x) *ℤ x → S ≡ pos 6 *ℤ (x +ℤ o) → Q ≡ pos 6 *ℤ x → IsEarned a c P (pos 36) S Q
earned_at a c o x P S Q e f g =
    ap (λ z. z *ℤ pos 36) e
    ∙ (by_ring (a ∷ c ∷ o ∷ x ∷ []) ((lit (pos 6) ⊗ (var 0 ⊖ var 1) ⊖ var 2 ⊖ var 3) ⊗ var 3 ⊗ lit (pos 36)) ((var 0 ⊗ lit (pos 36) ⊖ lit (pos 6) ⊗ (var 3 ⊕ var 2) ⊖ var 1 ⊗ lit (pos 36)) ⊗ (lit (pos 6) ⊗ var 3)) refl
    ∙ sym (ap (λ s. (a *ℤ pos 36 -ℤ s -ℤ c *ℤ pos 36) *ℤ Q) f ∙ ap (λ q. (a *ℤ pos 36 -ℤ pos 6 *ℤ (x +ℤ o) -ℤ c *ℤ pos 36) *ℤ q) g))

sold_is : (seed firms k : ℕ) → k < firms → sold firms (point seed firms) k ≡ pos 6 *ℤ (amount seed firms k +ℤ others seed firms k)
sold_is seed firms k below = go (has_rival firms k) refl
  where
    go : (b : Bool) → has_rival firms k ≡ b → sold firms (point seed firms) k ≡ pos 6 *ℤ (amount seed firms k +ℤ others seed firms k)
    go true e =
        let s = rival seed firms k e in
        sold_with seed firms k (point seed firms) e s ∙ (ap (λ z. z +ℤ cell (numbers seed firms) (quantity firms s.other)) (quantity_is seed firms k below) ∙ (ap (λ z. pos 6 *ℤ amount seed firms k +ℤ z) (quantity_is seed firms s.other s.within ∙ ap (λ z. pos 6 *ℤ z) s.amount_is) ∙ by_ring (amount seed firms k ∷ others seed firms k ∷ []) (lit (pos 6) ⊗ var 0 ⊕ lit (pos 6) ⊗ var 1) (lit (pos 6) ⊗ (var 0 ⊕ var 1)) refl))
    go false e =
        sold_alone firms k (point seed firms) e ∙ (quantity_is seed firms k below ∙ (by_ring (amount seed firms k ∷ []) (lit (pos 6) ⊗ var 0) (lit (pos 6) ⊗ (var 0 ⊕ lit (pos 0))) refl ∙ sym (ap (λ z. pos 6 *ℤ (amount seed firms k +ℤ z)) (others_alone seed firms k e))))

each_met : (seed firms k : ℕ) (m : Model) (q : Equation) → IsMarketModel seed firms m → slice_get m.equations k ≡ Some q → MeetsEquation (point seed firms) q
each_met seed firms k m q h at =
    let below : k < firms = subst (λ n. k < n) h.equations (slice_get_within m.equations k q at) in
    met_by seed firms k q (point seed firms) (h.each k q at)
    (earned_at (pos (demand seed k)) (pos (cost seed k)) (others seed firms k) (amount seed firms k) (cell (numbers seed firms) k) (sold firms (point seed firms) k) (amount_at firms (point seed firms) k) (profit_is seed firms k below) (sold_is seed firms k below) (quantity_is seed firms k below))

-- ---- bounds
cap_is : (seed k : ℕ) → IsWhole (whole (cap seed k)) (cap seed k)
cap_is seed k = is_whole (cap seed k) (let h = (ranges seed k).cap_high in omega arith)

-- from 0 to c, as an order of whole numbers
times_one : (z : ℤ) → z *ℤ pos 1 ≡ z
times_one z = omega (arith, ints)

from_zero : (Q D : ℤ) → pos 0 ≤ℤ Q → IsAbove (ratio Q D) (At (whole 0))
from_zero Q D h = subst₂ (λ x y. x ≤ℤ y) (sym (zero-*ℤ D)) (sym (times_one Q)) h

to_cap : (c : ℕ) (Q D : ℤ) → IsWhole (whole c) c → Q ≤ℤ (pos c *ℤ D) → IsBelow (ratio Q D) (At (whole c))
to_cap c Q D s h = subst₂ (λ n d. (Q *ℤ d) ≤ℤ (n *ℤ D)) (sym s.num) (sym s.den) (subst (λ z. z ≤ℤ (pos c *ℤ D)) (sym (times_one Q)) h)

at_least : (Q D : ℤ) → IsAbove (ratio Q D) (At (whole 0)) → pos 0 ≤ℤ Q
at_least Q D h = subst₂ (λ x y. x ≤ℤ y) (zero-*ℤ D) (times_one Q) h

at_most : (c : ℕ) (Q D : ℤ) → IsWhole (whole c) c → IsBelow (ratio Q D) (At (whole c)) → Q ≤ℤ (pos c *ℤ D)
at_most c Q D s h = subst (λ z. z ≤ℤ (pos c *ℤ D)) (times_one Q) (subst₂ (λ n d. (Q *ℤ d) ≤ℤ (n *ℤ D)) s.num s.den h)

-- an amount of x sixths is within its bounds
six_low : (x Q : ℤ) → Q ≡ pos 6 *ℤ x → pos 0 ≤ℤ x → pos 0 ≤ℤ Q
six_low x Q e h = omega (arith, ints)

six_high : (x c Q : ℤ) → Q ≡ pos 6 *ℤ x → x ≤ℤ (pos 6 *ℤ c) → Q ≤ℤ (c *ℤ pos 36)
six_high x c Q e h = omega (arith, ints)

same_entry : {A : Type 0} (xs : List A) (i j : ℕ) (x y : A) → slice_get xs i ≡ Some x → slice_get xs j ≡ Some y → i ≡ j → x ≡ y
same_entry xs i j x y at_i at_j e = cc

own_bounds : (seed firms k v : ℕ) (m : Model) (x : Variable) → IsMarketModel seed firms m → k < firms → slice_get m.variables v ≡ Some x → (k ≡ v) ⊎ (quantity firms k ≡ v) → MeetsBounds (point seed firms) v x
own_bounds seed firms k v m x h below at (inl e) =
    subst (λ y. MeetsBounds (point seed firms) v y) (same_entry m.variables k v (profit_variable k) x (h.profits k below) at e) (tt, tt)
own_bounds seed firms k v m x h below at (inr e) =
    let s = is_answer seed firms k in
    let Q = cell (numbers seed firms) (quantity firms k) in
    let is : Q ≡ pos 6 *ℤ amount seed firms k = quantity_is seed firms k below in
    subst₂ (λ n y. MeetsBounds (point seed firms) n y) e (same_entry m.variables (quantity firms k) v (quantity_variable seed k) x (h.quantities k below) at e)
    (from_zero Q (pos 36) (six_low (amount seed firms k) Q is s.low), to_cap (cap seed k) Q (pos 36) (cap_is seed k) (six_high (amount seed firms k) (pos (cap seed k)) Q is s.high))

feasible : (seed firms k : ℕ) (m : Model) (a : Annot) → IsMarket seed firms m a → k < firms → IsFeasible m a (block k) (point seed firms)
feasible seed firms k m a h below = record {
  deviation = record {
    fits = length-numbers seed firms ∙ sym h.model.variables;
    others = λ v within other. refl;
    bounds = λ v x at own. own_bounds seed firms k v m x h.model below at (own_cases firms k v m a h.annot below own);
    definition = λ e q at defined. each_met seed firms e m q h.model at;
  };
  constraints = λ e q at constraint. each_met seed firms e m q h.model at;
}

-- ---- no rival is better
-- the rivals of firm k leave the amount of each other firm
stands : (seed firms k n : ℕ) (m : Model) (a : Annot) (r : Point) → IsMarket seed firms m a → k < firms → IsRival m a (block k) (point seed firms) r → n < firms → (n ≡ k → ⊥) → pos 6 *ℤ amount_at firms r n ≡ amount seed firms n *ℤ r.den
stands seed firms k n m a r h below rival in_ other =
    let in_model : quantity firms n < length m.variables = subst (λ l. quantity firms n < l) (sym h.model.variables) (omega arith) in
    let same : amount_at firms r n *ℤ pos 36 ≡ cell (numbers seed firms) (quantity firms n) *ℤ r.den = rival.deviation.others (quantity firms n) in_model (not_own firms k (quantity firms n) m a h.annot below (λ e. not_profit e) (λ e. other (same_place e))) in
    sixth (amount_at firms r n) (amount seed firms n) (cell (numbers seed firms) (quantity firms n)) r.den same (quantity_is seed firms n in_)
  where
    not_profit : k ≡ quantity firms n → ⊥
    not_profit e = omega arith

    same_place : quantity firms k ≡ quantity firms n → n ≡ k
    same_place e = omega arith

    sixth : (R A C D : ℤ) → R *ℤ pos 36 ≡ C *ℤ D → C ≡ pos 6 *ℤ A → pos 6 *ℤ R ≡ A *ℤ D
    sixth R A C D e f =
        cancel_right (pos 6 *ℤ R) (A *ℤ D) (pos 6)
        (by_ring (R ∷ []) (lit (pos 6) ⊗ var 0 ⊗ lit (pos 6)) (var 0 ⊗ lit (pos 36)) refl ∙ (e ∙ (ap (λ z. z *ℤ D) f ∙ by_ring (A ∷ D ∷ []) (lit (pos 6) ⊗ var 0 ⊗ var 1) (var 0 ⊗ var 1 ⊗ lit (pos 6)) refl)))
        (omega (arith, ints))

not_better : (seed firms k : ℕ) (m : Model) (a : Annot) (r : Point) → IsMarket seed firms m a → k < firms → IsRival m a (block k) (point seed firms) r → IsBetter Max (coordinate r k) (coordinate (point seed firms) k) → ⊥
not_better seed firms k m a r h below rival better = go (slice_get_cases m.equations k).1
  where
    enough : (c : ℕ) → 4 ≤ c → pos 0 <ℤ pos c
    enough c h = omega (arith, ints)

    turned : (x y : ℤ) → x ≤ℤ y → y <ℤ x → ⊥
    turned x y h k = omega (arith, ints)

    go : ((q : Equation) × (k < length m.equations) × (slice_get m.equations k ≡ Some q) × (get_or m.equations k q ≡ q)) ⊎ ((length m.equations ≤ k) × (slice_get m.equations k ≡ None)) → ⊥
    go (inl s) =
        let bounds : MeetsBounds r (quantity firms k) (quantity_variable seed k) = rival.deviation.bounds (quantity firms k) (quantity_variable seed k) (h.model.quantities k below) (own_quantity firms k m a h.annot below) in
        let most = no_gain (pos (demand seed k)) (pos (cost seed k)) (pos (cap seed k)) (others seed firms k) (amount seed firms k) (cell r.nums k) r.den (sold firms r k) (amount_at firms r k) r.positive
        (enough (cap seed k) (ranges seed k).cap_low)
        (is_answer seed firms k)
        (earns seed firms k s.0 r (h.model.each k s.0 s.2) (meets_own firms k m a (point seed firms) r s.0 h.annot below s.2 rival))
        (others_stand seed firms k r (λ n in_ other. stands seed firms k n m a r h below rival in_ other))
        (at_least (amount_at firms r k) r.den bounds.0)
        (at_most (cap seed k) (amount_at firms r k) r.den (cap_is seed k) bounds.1) in
        let gain : (cell (numbers seed firms) k *ℤ r.den) <ℤ (cell r.nums k *ℤ pos 36) = better in
        turned (cell r.nums k *ℤ pos 36) (earning seed firms k *ℤ r.den) most (subst (λ z. (z *ℤ r.den) <ℤ (cell r.nums k *ℤ pos 36)) (profit_is seed firms k below) gain)
    go (inr s) = let e : length m.equations ≡ firms = h.model.equations in absurd (omega (arith, s.0))

solved : (seed firms k : ℕ) (m : Model) (a : Annot) → IsMarket seed firms m a → k < firms → IsSolved m a k (point seed firms)
solved seed firms k m a h below = record {
  feasible = feasible seed firms k m a h below;
  best = subst (λ b. NoRivalIsBetter m a k b (point seed firms)) (sym (h.annot.blocks k below)) (λ r rival better. not_better seed firms k m a r h below rival better);
}

none_at : {A : Type 0} (ds : List A) (i : ℕ) (d : A) → ds ≡ [] → slice_get ds i ≡ Some d → ⊥
none_at ds i d e at = let none : slice_get [] i ≡ Some d = subst (λ ds. slice_get ds i ≡ Some d) e at in cc

pub markets_have_equilibria : MarketsHaveEquilibria
markets_have_equilibria seed firms m a h = (
  point seed firms,
  record {
    fits = length-numbers seed firms ∙ sym h.model.variables;
    solved = λ k l. solved seed firms k m a h (subst (λ n. k < n) h.annot.count l);
    choice = λ k e. ratio (pos 0) (pos 1);
    prices = record {
      multipliers = λ k l priced. absurd (false≢true (sym (not_priced firms k m a h.annot) ∙ priced));
      duals = λ k i d l at constraint. absurd (none_at a.duals i d h.annot.duals at);
      shared = λ j k e l n named first second. refl;
    };
  },
)

-- The equation of a firm at a point, as an equation of whole numbers.
use Rattle.std.proofs.Common.{◌≡◌, ◌⊎◌, inl, inr, ℕ, ◌+◌, ◌<◌, ℤ, pos, ◌+ℤ◌, ◌-ℤ◌, ◌*ℤ◌, Bool, true, false, cond, [], ◌∷◌, arith, refl, sym, ap, ap₂, subst, subst₂, ◌∙◌}
use lib.IntN.{+ℤ_comm}
use Rattle.emp_algebra.proofs.Ring.{var, lit, ◌⊕◌, ◌⊖◌, ◌⊗◌, by_ring}
use Rattle.emp_algebra.specs.Vector.{cell}
use Rattle.emp_num.specs.Point.{Point}
use Rattle.emp_num.specs.Whole.{whole}
use Rattle.emp_num.specs.declared.frac.Frac.{Frac}
use Rattle.emp_ast.specs.declared.tree.Operator.TheVariants.{Minus, Times}
use Rattle.emp_ast.specs.declared.model.Relation.TheVariants.{Equal}
use Rattle.emp_ast.specs.declared.model.Equation.{Equation}
use Rattle.emp_ast.specs.Expression.{Expression, number, variable, joined, expression_of}
use Rattle.emp_ast.specs.Value.{value, tree_value}
use Rattle.emp_ast.specs.Meets.{AreRelated, MeetsEquation}
use Rattle.emp_make.specs.Markets.{demand, cost, first_of_market, has_rival, quantity, profit, IsProfitEquation}
use Rattle.emp_duopoly.proofs.Firms.{ranges, amount, others, others_alone, Rival, rival}
use Rattle.emp_duopoly.proofs.Profits.{IsEarned, PaysTwo, PaysOne, earned_by_two, pays_two, earned_by_one, pays_one, IsWhole, is_whole}

-- the amount of firm n at the point
abbrev pub amount_at : ℕ → Point → ℕ → ℤ
amount_at firms r n = cell r.nums (quantity firms n)

-- the amount of the market of firm k
abbrev pub sold : ℕ → Point → ℕ → ℤ
sold firms r k = cond (has_rival firms k) (amount_at firms r (first_of_market k) +ℤ amount_at firms r (first_of_market k + 1)) (amount_at firms r k)

abbrev pub Earns : ℕ → ℕ → ℕ → Point → Type 0
Earns seed firms k r = IsEarned (pos (demand seed k)) (pos (cost seed k)) (cell r.nums k) r.den (sold firms r k) (amount_at firms r k)

-- ---- an equation by its sides
sides : (r : Point) (q : Equation) (e f : Expression) → expression_of q.left.nodes ≡ e → expression_of q.right.nodes ≡ f → q.relation ≡ Equal → MeetsEquation r q → AreRelated Equal (value r e) (value r f)
sides r q e f left right relation h =
    subst₂ (λ x y. AreRelated Equal (value r x) (value r y)) left right (subst (λ t. AreRelated t (tree_value r q.left) (tree_value r q.right)) relation h)

by_sides : (r : Point) (q : Equation) (e f : Expression) → expression_of q.left.nodes ≡ e → expression_of q.right.nodes ≡ f → q.relation ≡ Equal → AreRelated Equal (value r e) (value r f) → MeetsEquation r q
by_sides r q e f left right relation h =
    subst (λ t. AreRelated t (tree_value r q.left) (tree_value r q.right)) (sym relation) (subst₂ (λ x y. AreRelated Equal (value r x) (value r y)) (sym left) (sym right) h)

-- ---- the two forms of the price
abbrev price_by : Bool → ℕ → ℕ → ℕ → ℕ → Expression
price_by b d i j v = cond b (joined Minus (joined Minus (number (whole d)) (variable i)) (variable j)) (joined Minus (number (whole d)) (variable v))

abbrev profit_by : Bool → ℕ → ℕ → ℕ → ℕ → ℕ → Expression
profit_by b d c i j v = joined Minus (joined Times (price_by b d i j v) (variable v)) (joined Times (number (whole c)) (variable v))

abbrev sold_by : Bool → Point → ℕ → ℕ → ℕ → ℤ
sold_by b r i j v = cond b (cell r.nums i +ℤ cell r.nums j) (cell r.nums v)

-- a quotient of whole numbers in the place of a fraction
at_whole : (f g : Frac) (d c : ℕ) (P : ℤ → ℤ → ℤ → ℤ → Type 0) → IsWhole f d → IsWhole g c → P f.num f.den g.num g.den → P (pos d) (pos 1) (pos c) (pos 1)
at_whole f g d c P s t h =
    subst₂ (λ x y. P (pos d) (pos 1) x y) t.num t.den (subst₂ (λ x y. P x y g.num g.den) s.num s.den h)

from_whole : (f g : Frac) (d c : ℕ) (P : ℤ → ℤ → ℤ → ℤ → Type 0) → IsWhole f d → IsWhole g c → P (pos d) (pos 1) (pos c) (pos 1) → P f.num f.den g.num g.den
from_whole f g d c P s t h =
    subst₂ (λ x y. P f.num f.den x y) (sym t.num) (sym t.den) (subst₂ (λ x y. P x y (pos c) (pos 1)) (sym s.num) (sym s.den) h)

earned : (b : Bool) (r : Point) (d c i j v k : ℕ) → IsWhole (whole d) d → IsWhole (whole c) c → AreRelated Equal (value r (variable k)) (value r (profit_by b d c i j v)) → IsEarned (pos d) (pos c) (cell r.nums k) r.den (sold_by b r i j v) (cell r.nums v)
earned true r d c i j v k s t h =
    earned_by_two (pos d) (pos c) (cell r.nums k) r.den (cell r.nums i) (cell r.nums j) (cell r.nums v) r.positive
    (at_whole (whole d) (whole c) d c (λ x y z w. PaysTwo x y z w (cell r.nums k) r.den (cell r.nums i) (cell r.nums j) (cell r.nums v)) s t h)
earned false r d c i j v k s t h =
    earned_by_one (pos d) (pos c) (cell r.nums k) r.den (cell r.nums v) r.positive
    (at_whole (whole d) (whole c) d c (λ x y z w. PaysOne x y z w (cell r.nums k) r.den (cell r.nums v)) s t h)

paid : (b : Bool) (r : Point) (d c i j v k : ℕ) → IsWhole (whole d) d → IsWhole (whole c) c → IsEarned (pos d) (pos c) (cell r.nums k) r.den (sold_by b r i j v) (cell r.nums v) → AreRelated Equal (value r (variable k)) (value r (profit_by b d c i j v))
paid true r d c i j v k s t h =
    from_whole (whole d) (whole c) d c (λ x y z w. PaysTwo x y z w (cell r.nums k) r.den (cell r.nums i) (cell r.nums j) (cell r.nums v)) s t
    (pays_two (pos d) (pos c) (cell r.nums k) r.den (cell r.nums i) (cell r.nums j) (cell r.nums v) h)
paid false r d c i j v k s t h =
    from_whole (whole d) (whole c) d c (λ x y z w. PaysOne x y z w (cell r.nums k) r.den (cell r.nums v)) s t
    (pays_one (pos d) (pos c) (cell r.nums k) r.den (cell r.nums v) h)

demand_is : (seed k : ℕ) → IsWhole (whole (demand seed k)) (demand seed k)
demand_is seed k = is_whole (demand seed k) (ranges seed k).demand_high

cost_is : (seed k : ℕ) → IsWhole (whole (cost seed k)) (cost seed k)
cost_is seed k = is_whole (cost seed k) (let h = (ranges seed k).cost_high in omega arith)

-- ---- the equation at any point
pub earns : (seed firms k : ℕ) (q : Equation) (r : Point) → IsProfitEquation seed firms k q → MeetsEquation r q → Earns seed firms k r
earns seed firms k q r h met =
    earned (has_rival firms k) r (demand seed k) (cost seed k) (quantity firms (first_of_market k)) (quantity firms (first_of_market k + 1)) (quantity firms k) k (demand_is seed k) (cost_is seed k)
    (sides r q (variable k) (profit seed firms k) h.left h.right h.relation met)

pub met_by : (seed firms k : ℕ) (q : Equation) (r : Point) → IsProfitEquation seed firms k q → Earns seed firms k r → MeetsEquation r q
met_by seed firms k q r h e =
    by_sides r q (variable k) (profit seed firms k) h.left h.right h.relation
    (paid (has_rival firms k) r (demand seed k) (cost seed k) (quantity firms (first_of_market k)) (quantity firms (first_of_market k + 1)) (quantity firms k) k (demand_is seed k) (cost_is seed k) e)

-- ---- the market's amount by the firm and its rival
pub sold_alone : (firms k : ℕ) (r : Point) → has_rival firms k ≡ false → sold firms r k ≡ amount_at firms r k
sold_alone firms k r e = ap (λ b. sold_by b r (quantity firms (first_of_market k)) (quantity firms (first_of_market k + 1)) (quantity firms k)) e

pub sold_with : (seed firms k : ℕ) (r : Point) → has_rival firms k ≡ true → (s : Rival seed firms k) → sold firms r k ≡ amount_at firms r k +ℤ amount_at firms r s.other
sold_with seed firms k r e s = ap (λ b. sold_by b r (quantity firms (first_of_market k)) (quantity firms (first_of_market k + 1)) (quantity firms k)) e ∙ go s.places
  where
    go : ((first_of_market k ≡ k) × (first_of_market k + 1 ≡ s.other)) ⊎ ((first_of_market k ≡ s.other) × (first_of_market k + 1 ≡ k)) → amount_at firms r (first_of_market k) +ℤ amount_at firms r (first_of_market k + 1) ≡ amount_at firms r k +ℤ amount_at firms r s.other
    go (inl h) = ap₂ (λ x y. amount_at firms r x +ℤ amount_at firms r y) h.0 h.1
    go (inr h) = ap₂ (λ x y. amount_at firms r x +ℤ amount_at firms r y) h.0 h.1 ∙ +ℤ_comm (amount_at firms r s.other) (amount_at firms r k)

-- what the others sell at r, where each sells what it does in balance
pub others_stand : (seed firms k : ℕ) (r : Point) → ((n : ℕ) → n < firms → (n ≡ k → ⊥) → pos 6 *ℤ amount_at firms r n ≡ amount seed firms n *ℤ r.den) → pos 6 *ℤ (sold firms r k -ℤ amount_at firms r k) ≡ others seed firms k *ℤ r.den
others_stand seed firms k r h = go (has_rival firms k) refl
  where
    go : (b : Bool) → has_rival firms k ≡ b → pos 6 *ℤ (sold firms r k -ℤ amount_at firms r k) ≡ others seed firms k *ℤ r.den
    go true e =
        let s = rival seed firms k e in
        ap (λ z. pos 6 *ℤ (z -ℤ amount_at firms r k)) (sold_with seed firms k r e s)
        ∙ (by_ring (amount_at firms r k ∷ amount_at firms r s.other ∷ []) (lit (pos 6) ⊗ (var 0 ⊕ var 1 ⊖ var 0)) (lit (pos 6) ⊗ var 1) refl
        ∙ (h s.other s.within s.apart ∙ ap (λ z. z *ℤ r.den) s.amount_is))
    go false e =
        ap (λ z. pos 6 *ℤ (z -ℤ amount_at firms r k)) (sold_alone firms k r e)
        ∙ (by_ring (amount_at firms r k ∷ r.den ∷ []) (lit (pos 6) ⊗ (var 0 ⊖ var 0)) (lit (pos 0) ⊗ var 1) refl
        ∙ sym (ap (λ z. z *ℤ r.den) (others_alone seed firms k e)))

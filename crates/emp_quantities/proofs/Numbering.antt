-- Quantities by their numbers are the conditions one after another.
use Rattle.std.proofs.Common.{◌≡◌, ◌⊎◌, inl, inr, ◌↔◌, ℕ, zero, suc, ◌<◌, ◌+◌, ◌-◌, ℤ, pos, ◌*ℤ◌, ◌≤ℤ◌, ◌<ℤ◌, List, [], ◌∷◌, take, length, slice_index_or, Option, Some, None, arith, refl, sym, ap, subst, ◌∙◌}
use Rattle.std.proofs.lemmas.Int.{ints}
use lib.IntN.{zero-*ℤ, *ℤ-zero}
use Rattle.emp_algebra.specs.Vector.{scale}
use Rattle.emp_algebra.proofs.Ring.{var, ◌⊗◌, by_ring}
use Rattle.emp_algebra.proofs.Laws.{mul_nonneg, mul_pos, one-*ℤ}
use Rattle.emp_algebra.proofs.Order.{linear, le_cancel_right, cancel_right, mul_lt_right, le_or_lt, mul_le_right}
use Rattle.emp_num.specs.Point.{Point}
use Rattle.emp_rows.specs.declared.affine.Affine.{Affine}
use Rattle.emp_rows.specs.declared.system.RowSystem.{RowSystem}
use Rattle.emp_rows.specs.RowPoints.{no_row, AreOfKind, Solves}
use Rattle.emp_rows.specs.RowPoints.{value_at as affine_at}
use Rattle.emp_game.specs.Game.{Row}
use Rattle.emp_game.specs.Solved.{value_at}
use Rattle.emp_split.specs.Games.{Leader, Game, coordinates, IsGame, IsConvexGame}
use Rattle.emp_split.specs.Meaning.{IsSplit, IsBetter}
use Rattle.emp_split.proofs.Scaling.{scale_one}
use Rattle.emp_conditions.specs.Base.{base_slots, split_of}
use Rattle.emp_conditions.specs.Rows.{Condition, zero_row, nonneg_row, pair, HoldAt, conditions, SolvesRows}
use Rattle.emp_conditions.specs.Laws.{HasOneRule, IsLeader}
use Rattle.emp_conditions.proofs.Values.{value_take}
use Rattle.emp_conditions.proofs.Sound.{rows_are_split}
use Rattle.emp_conditions.proofs.Lifting.{split_has_rows}
use Rattle.emp_quantities.specs.System.{rows_of, kinds_of, pairs_of, IsMultipleOf, AreMultiplesOf, IsObjectiveOf, IsSystemOf, IsBelowBy}
use Rattle.emp_quantities.specs.Over.{over, IsMultipleOver, AreMultiplesOver, IsObjectiveOver, IsSystemOver}
use Rattle.emp_quantities.specs.Laws.{GoalIsShort}
use Rattle.emp_quantities.proofs.Over.{over_length, take_over, split_over, under, over_under, over_one, split_scaled, rows_scaled}

-- ---- a multiple has the signs of its row
-- a number for each base variable
abbrev pub IsWhole : Game → Point → Type 0
IsWhole g p = length p.nums ≡ coordinates g + length (base_slots g)

multiple_none : (n : ℤ) (g : Game) (q : Affine) (r : Row) (p : Point) → IsWhole g p → IsMultipleOver n g q r → (affine_at q p ≡ pos 0) ↔ (value_at r p.den (over n g p.nums) ≡ pos 0)
multiple_none n g q r p fits m = (
  λ h. cancel_right (value_at r p.den (over n g p.nums)) (pos 0) m.top (turn m.top (value_at r p.den (over n g p.nums)) ∙ (sym same ∙ (ap (λ z. m.bottom *ℤ z) h ∙ (*ℤ-zero m.bottom ∙ sym (zero-*ℤ m.top))))) m.top_positive,
  λ h. cancel_right (affine_at q p) (pos 0) m.bottom (turn m.bottom (affine_at q p) ∙ (same ∙ (ap (λ z. m.top *ℤ z) h ∙ (*ℤ-zero m.top ∙ sym (zero-*ℤ m.bottom))))) m.bottom_positive,
)
  where
    same : m.bottom *ℤ affine_at q p ≡ m.top *ℤ value_at r p.den (over n g p.nums)
    same = m.equal p.den p.nums fits

    turn : (a b : ℤ) → b *ℤ a ≡ a *ℤ b
    turn a b = by_ring (a ∷ b ∷ []) (var 1 ⊗ var 0) (var 0 ⊗ var 1) refl

multiple_nonneg : (n : ℤ) (g : Game) (q : Affine) (r : Row) (p : Point) → IsWhole g p → IsMultipleOver n g q r → (pos 0 ≤ℤ affine_at q p) ↔ (pos 0 ≤ℤ value_at r p.den (over n g p.nums))
multiple_nonneg n g q r p fits m = (
  λ h. le_cancel_right (pos 0) (value_at r p.den (over n g p.nums)) m.top (let up = mul_nonneg m.bottom (affine_at q p) (omega (arith, linear, m.bottom_positive)) h in let t = turn m.top (value_at r p.den (over n g p.nums)) in omega (arith, linear, up, same, t, zero-*ℤ m.top)) m.top_positive,
  λ h. le_cancel_right (pos 0) (affine_at q p) m.bottom (let up = mul_nonneg m.top (value_at r p.den (over n g p.nums)) (omega (arith, linear, m.top_positive)) h in let t = turn m.bottom (affine_at q p) in omega (arith, linear, up, same, t, zero-*ℤ m.bottom)) m.bottom_positive,
)
  where
    same : m.bottom *ℤ affine_at q p ≡ m.top *ℤ value_at r p.den (over n g p.nums)
    same = m.equal p.den p.nums fits

    turn : (a b : ℤ) → b *ℤ a ≡ a *ℤ b
    turn a b = by_ring (a ∷ b ∷ []) (var 1 ⊗ var 0) (var 0 ⊗ var 1) refl

-- ---- numbers of quantities
abbrev pub at_number : List Affine → ℕ → Affine
at_number all k = slice_index_or all (k - 1) no_row

abbrev pub Vanishes : List Affine → Point → ℕ × ℕ → Type 0
Vanishes all p n = (affine_at (at_number all n.0) p ≡ pos 0) ⊎ (affine_at (at_number all n.1) p ≡ pos 0)

abbrev pub AllVanish : List Affine → Point → List (ℕ × ℕ) → Type 0
AllVanish all p [] = Unit {0}
AllVanish all p (n ∷ ns) = Vanishes all p n × AllVanish all p ns

-- the rest of the list begins behind so many
abbrev pub BeginsAt : List Affine → ℕ → List Affine → Type 0
BeginsAt all before qs = (i : ℕ) → slice_index_or all (before + i) no_row ≡ slice_index_or qs i no_row

next : (all : List Affine) (before : ℕ) (q : Affine) (qs : List Affine) → BeginsAt all before (q ∷ qs) → BeginsAt all (before + 1) qs
next all before q qs h i = ap (λ n. slice_index_or all n no_row) (step before i) ∙ h (suc i)
  where
    step : (b i : ℕ) → b + 1 + i ≡ b + suc i
    step b i = omega arith

second : (all : List Affine) (before : ℕ) (q r : Affine) (qs : List Affine) → BeginsAt all before (q ∷ (r ∷ qs)) → BeginsAt all (before + 2) qs
second all before q r qs h i = ap (λ n. slice_index_or all n no_row) (step before i) ∙ h (suc (suc i))
  where
    step : (b i : ℕ) → b + 2 + i ≡ b + suc (suc i)
    step b i = omega arith

first_is : (all : List Affine) (before : ℕ) (q : Affine) (qs : List Affine) → BeginsAt all before (q ∷ qs) → at_number all (before + 1) ≡ q
first_is all before q qs h = ap (λ n. slice_index_or all n no_row) (step before) ∙ h 0
  where
    step : (b : ℕ) → b + 1 - 1 ≡ b + 0
    step b = omega arith

second_is : (all : List Affine) (before : ℕ) (q r : Affine) (qs : List Affine) → BeginsAt all before (q ∷ (r ∷ qs)) → at_number all (before + 2) ≡ r
second_is all before q r qs h = ap (λ n. slice_index_or all n no_row) (step before) ∙ h 1
  where
    step : (b : ℕ) → b + 2 - 1 ≡ b + 1
    step b = omega arith

-- ---- the conditions
abbrev pub Holding : List Affine → ℕ → List Affine → List Condition → Point → Type 0
Holding all before qs cs p = AreOfKind qs (kinds_of cs) p × AllVanish all p (pairs_of before cs)

either_same : {A B C D : Type 0} → A ↔ C → B ↔ D → (A ⊎ B) ↔ (C ⊎ D)
either_same {A} {B} {C} {D} f g = (there, back)
  where
    there : A ⊎ B → C ⊎ D
    there (inl a) = inl (f.0 a)
    there (inr b) = inr (g.0 b)

    back : C ⊎ D → A ⊎ B
    back (inl c) = inl (f.1 c)
    back (inr d) = inr (g.1 d)

pub numbered : (n : ℤ) (g : Game) (all : List Affine) (before : ℕ) (qs : List Affine) (cs : List Condition) (p : Point) → IsWhole g p → BeginsAt all before qs → AreMultiplesOver n g qs (rows_of cs) → Holding all before qs cs p ↔ HoldAt cs p.den (over n g p.nums)
numbered n g all before [] [] p fits b m = (λ h. tt, λ h. (tt, tt))
numbered n g all before (q ∷ qs) [] p fits b m = absurd m
numbered n g all before [] (zero_row r ∷ cs) p fits b m = absurd m
numbered n g all before (q ∷ qs) (zero_row r ∷ cs) p fits b m =
    let here = multiple_none n g q r p fits m.0 in
    let rest = numbered n g all (before + 1) qs cs p fits (next all before q qs b) m.1 in
    (λ h. (here.0 h.0.0, rest.0 (h.0.1, h.1)), λ h. let t = rest.1 h.1 in ((here.1 h.0, t.0), t.1))
numbered n g all before [] (nonneg_row r ∷ cs) p fits b m = absurd m
numbered n g all before (q ∷ qs) (nonneg_row r ∷ cs) p fits b m =
    let here = multiple_nonneg n g q r p fits m.0 in
    let rest = numbered n g all (before + 1) qs cs p fits (next all before q qs b) m.1 in
    (λ h. (here.0 h.0.0, rest.0 (h.0.1, h.1)), λ h. let t = rest.1 h.1 in ((here.1 h.0, t.0), t.1))
numbered n g all before [] (pair x y ∷ cs) p fits b m = absurd m
numbered n g all before (q ∷ []) (pair x y ∷ cs) p fits b m = absurd m.1
numbered n g all before (q ∷ (t ∷ qs)) (pair x y ∷ cs) p fits b m =
    let upper = multiple_nonneg n g q y p fits m.0 in
    let lower = multiple_nonneg n g t x p fits m.1.0 in
    let rest = numbered n g all (before + 2) qs cs p fits (second all before q t qs b) m.1.1 in
    let one = either_same
    (let e = multiple_none n g t x p fits m.1.0 in (λ h. e.0 (subst (λ (z : Affine). affine_at z p ≡ pos 0) (second_is all before q t qs b) h), λ h. subst (λ (z : Affine). affine_at z p ≡ pos 0) (sym (second_is all before q t qs b)) (e.1 h)))
    (let e = multiple_none n g q y p fits m.0 in (λ h. e.0 (subst (λ (z : Affine). affine_at z p ≡ pos 0) (first_is all before q (t ∷ qs) b) h), λ h. subst (λ (z : Affine). affine_at z p ≡ pos 0) (sym (first_is all before q (t ∷ qs) b)) (e.1 h))) in (
      λ h. ((lower.0 h.0.1.0, upper.0 h.0.0, one.0 h.1.0), rest.0 (h.0.1.1, h.1.1)),
      λ h. let w = rest.1 h.1 in let c = h.0 in ((upper.1 c.1, (lower.1 c.0, w.0)), (one.1 c.2, w.1)),
    )

-- ---- pairs by their places
pub by_place : (all : List Affine) (p : Point) (ns : List (ℕ × ℕ)) → AllVanish all p ns → (k : ℕ) → k < length ns → Vanishes all p (slice_index_or ns k (0, 0))
by_place all p [] h k l = absurd (omega arith)
by_place all p (n ∷ ns) h zero l = h.0
by_place all p (n ∷ ns) h (suc k) l = by_place all p ns h.1 k (omega arith)

pub from_places : (all : List Affine) (p : Point) (ns : List (ℕ × ℕ)) → ((k : ℕ) → k < length ns → Vanishes all p (slice_index_or ns k (0, 0))) → AllVanish all p ns
from_places all p [] h = tt
from_places all p (n ∷ ns) h = (h 0 (omega arith), from_places all p ns (λ k l. h (suc k) (omega arith)))

-- ---- the laws
pub over_is_conditions : (n : ℤ) (g : Game) (s : RowSystem) (p : Point) → IsSystemOver n g s → Solves s p ↔ SolvesRows g p.den (over n g p.nums)
over_is_conditions n g s p m = (
  λ h. record {
    count = over_length n g p.nums ∙ (h.count ∙ m.base);
    hold = (same (h.count ∙ m.base)).0 (subst (λ ks. AreOfKind s.quantities ks p) m.kinds h.kinds, subst (λ ns. AllVanish s.quantities p ns) m.pairs (from_places s.quantities p s.pairs h.pairs));
  },
  λ h. let fits = sym (over_length n g p.nums) ∙ h.count in let t = (same fits).1 h.hold in record {
    count = fits ∙ sym m.base;
    kinds = subst (λ ks. AreOfKind s.quantities ks p) (sym m.kinds) t.0;
    pairs = by_place s.quantities p s.pairs (subst (λ ns. AllVanish s.quantities p ns) (sym m.pairs) t.1);
  },
)
  where
    begins : BeginsAt s.quantities 0 s.quantities
    begins i = ap (λ n. slice_index_or s.quantities n no_row) (none i)
      where
        none : (i : ℕ) → 0 + i ≡ i
        none i = omega arith

    same : IsWhole g p → Holding s.quantities 0 s.quantities (conditions g) p ↔ HoldAt (conditions g) p.den (over n g p.nums)
    same fits = numbered n g s.quantities 0 s.quantities (conditions g) p fits begins m.quantities

pub over_is_sound : (n : ℤ) (g : Game) (s : RowSystem) (p : Point) → IsGame g → IsConvexGame g → HasOneRule g → IsLeader (coordinates g) g.leader → IsSystemOver n g s → Solves s p → IsSplit g p.den (split_of g p.nums)
over_is_sound n g s p kept convex one lead m h = subst (λ (ys : List ℤ). IsSplit g p.den ys) (split_over n g p.nums) (rows_are_split g p.den (over n g p.nums) kept convex one lead p.positive ((over_is_conditions n g s p m).0 h))

pub over_lifts : (n : ℤ) (g : Game) (s : RowSystem) (q : Point) → pos 0 <ℤ n → IsGame g → IsLeader (coordinates g) g.leader → IsSystemOver n g s → IsSplit g q.den q.nums → (p : Point) × Solves s p × (p.den ≡ n *ℤ q.den) × (split_of g p.nums ≡ scale n q.nums)
over_lifts n g s q above kept lead m h = go (split_has_rows g q.den q.nums kept lead q.positive h)
  where
    go : (rs : List ℤ) × SolvesRows g q.den rs × (split_of g rs ≡ q.nums) → (p : Point) × Solves s p × (p.den ≡ n *ℤ q.den) × (split_of g p.nums ≡ scale n q.nums)
    go (rs, solves, same) =
        let p : Point = record { den = n *ℤ q.den; nums = under n g rs; positive = mul_pos n q.den above q.positive } in
        let here : SolvesRows g (n *ℤ q.den) (over n g (under n g rs)) = subst (λ (ys : List ℤ). SolvesRows g (n *ℤ q.den) ys) (sym (over_under n g rs)) (rows_scaled g n q.den rs above solves) in
        (p, (over_is_conditions n g s p m).1 here, refl, sym (split_over n g (under n g rs)) ∙ (ap (split_of g) (over_under n g rs) ∙ (split_scaled n g rs ∙ ap (scale n) same)))

-- ---- the order
lt_cancel : (x y c : ℤ) → (x *ℤ c) <ℤ (y *ℤ c) → pos 0 <ℤ c → x <ℤ y
lt_cancel x y c h k = go (le_or_lt y x)
  where
    go : (y ≤ℤ x) ⊎ (x <ℤ y) → x <ℤ y
    go (inl t) = absurd (let up = mul_le_right y x c t (omega (arith, linear, k)) in omega (arith, linear, up, h))
    go (inr t) = t

-- of two fractions that are multiples of two others, the first is less exactly where it is so of the others
multiples_order : (top bottom u v a b d e : ℤ) → pos 0 <ℤ top → pos 0 <ℤ bottom → bottom *ℤ u ≡ top *ℤ a → bottom *ℤ v ≡ top *ℤ b → ((u *ℤ e) <ℤ (v *ℤ d)) ↔ ((a *ℤ e) <ℤ (b *ℤ d))
multiples_order top bottom u v a b d e above below left right = (
  λ h. lt_cancel (a *ℤ e) (b *ℤ d) top (let up = mul_lt_right (u *ℤ e) (v *ℤ d) bottom h below in let first = turned u a e left in let other = turned v b d right in omega (arith, linear, up, first, other)) above,
  λ h. lt_cancel (u *ℤ e) (v *ℤ d) bottom (let up = mul_lt_right (a *ℤ e) (b *ℤ d) top h above in let first = turned u a e left in let other = turned v b d right in omega (arith, linear, up, first, other)) below,
)
  where
    turned : (x y z : ℤ) → bottom *ℤ x ≡ top *ℤ y → x *ℤ z *ℤ bottom ≡ y *ℤ z *ℤ top
    turned x y z h = by_ring (x ∷ z ∷ bottom ∷ []) (var 0 ⊗ var 1 ⊗ var 2) (var 2 ⊗ var 0 ⊗ var 1) refl ∙ (ap (λ w. w *ℤ z) h ∙ by_ring (top ∷ y ∷ z ∷ []) (var 0 ⊗ var 1 ⊗ var 2) (var 1 ⊗ var 2 ⊗ var 0) refl)

over_order_by : (n : ℤ) (g : Game) (o : Option Affine) (l : Option Leader) (p q : Point) → GoalIsShort (coordinates g) l → IsWhole g p → IsWhole g q → IsObjectiveOver n g o l → IsBelowBy o p q ↔ IsBetter l p.den (take (coordinates g) p.nums) q.den (take (coordinates g) q.nums)
over_order_by n g None None p q s i j m = (λ h. h, λ h. h)
over_order_by n g None (Some l) p q s i j m = absurd m
over_order_by n g (Some r) None p q s i j m = absurd m
over_order_by n g (Some r) (Some l) p q s i j m = multiples_order m.top m.bottom (affine_at r p) (affine_at r q) (goal p) (goal q) p.den q.den m.top_positive m.bottom_positive (equal p i) (equal q j)
  where
    goal : Point → ℤ
    goal t = value_at l.goal t.den (take (coordinates g) t.nums)

    equal : (t : Point) → IsWhole g t → m.bottom *ℤ affine_at r t ≡ m.top *ℤ goal t
    equal t k = m.equal t.den t.nums k ∙ ap (λ z. m.top *ℤ z) (value_take (coordinates g) l.goal t.den (over n g t.nums) s ∙ ap (value_at l.goal t.den) (take_over n g t.nums))

pub over_orders : (n : ℤ) (g : Game) (s : RowSystem) (p q : Point) → GoalIsShort (coordinates g) g.leader → IsSystemOver n g s → length p.nums ≡ s.base → length q.nums ≡ s.base → IsBelowBy s.objective p q ↔ IsBetter g.leader p.den (take (coordinates g) p.nums) q.den (take (coordinates g) q.nums)
over_orders n g s p q short m i j = over_order_by n g s.objective g.leader p q short (i ∙ m.base) (j ∙ m.base) m.objective

-- ---- a system of the game's own numbers
multiple_is_over : (g : Game) (q : Affine) (r : Row) → IsMultipleOf q r → IsMultipleOver (pos 1) g q r
multiple_is_over g q r m = record {
  top = m.top;
  bottom = m.bottom;
  top_positive = m.top_positive;
  bottom_positive = m.bottom_positive;
  equal = λ d xs _. m.equal d xs ∙ ap (λ (ys : List ℤ). m.top *ℤ value_at r d ys) (sym (over_one g xs));
}

multiples_are_over : (g : Game) (qs : List Affine) (rs : List Row) → AreMultiplesOf qs rs → AreMultiplesOver (pos 1) g qs rs
multiples_are_over g [] [] m = tt
multiples_are_over g [] (r ∷ rs) m = m
multiples_are_over g (q ∷ qs) [] m = m
multiples_are_over g (q ∷ qs) (r ∷ rs) m = (multiple_is_over g q r m.0, multiples_are_over g qs rs m.1)

objective_is_over : (g : Game) (o : Option Affine) (l : Option Leader) → IsObjectiveOf o l → IsObjectiveOver (pos 1) g o l
objective_is_over g None None m = tt
objective_is_over g None (Some l) m = m
objective_is_over g (Some q) None m = m
objective_is_over g (Some q) (Some l) m = multiple_is_over g q l.goal m

pub system_is_over : (g : Game) (s : RowSystem) → IsSystemOf g s → IsSystemOver (pos 1) g s
system_is_over g s m = record {
  base = m.base;
  quantities = multiples_are_over g s.quantities (rows_of (conditions g)) m.quantities;
  kinds = m.kinds;
  pairs = m.pairs;
  objective = objective_is_over g s.objective g.leader m.objective;
}

pub system_is_conditions : (g : Game) (s : RowSystem) (p : Point) → IsSystemOf g s → Solves s p ↔ SolvesRows g p.den p.nums
system_is_conditions g s p m = subst (λ (ys : List ℤ). Solves s p ↔ SolvesRows g p.den ys) (over_one g p.nums) (over_is_conditions (pos 1) g s p (system_is_over g s m))

pub system_is_sound : (g : Game) (s : RowSystem) (p : Point) → IsGame g → IsConvexGame g → HasOneRule g → IsLeader (coordinates g) g.leader → IsSystemOf g s → Solves s p → IsSplit g p.den (split_of g p.nums)
system_is_sound g s p kept convex one lead m h = over_is_sound (pos 1) g s p kept convex one lead (system_is_over g s m) h

pub system_lifts : (g : Game) (s : RowSystem) (q : Point) → IsGame g → IsLeader (coordinates g) g.leader → IsSystemOf g s → IsSplit g q.den q.nums → (p : Point) × Solves s p × (p.den ≡ q.den) × (split_of g p.nums ≡ q.nums)
system_lifts g s q kept lead m h =
    let t = over_lifts (pos 1) g s q (omega (arith, ints)) kept lead (system_is_over g s m) h in
    (t.0, t.1, t.2 ∙ one-*ℤ q.den, t.3 ∙ scale_one q.nums)

order_by : (o : Option Affine) (l : Option Leader) (n : ℕ) (p q : Point) → GoalIsShort n l → IsObjectiveOf o l → IsBelowBy o p q ↔ IsBetter l p.den (take n p.nums) q.den (take n q.nums)
order_by None None n p q s m = (λ h. h, λ h. h)
order_by None (Some l) n p q s m = absurd m
order_by (Some r) None n p q s m = absurd m
order_by (Some r) (Some l) n p q s m = multiples_order m.top m.bottom (affine_at r p) (affine_at r q) (goal p) (goal q) p.den q.den m.top_positive m.bottom_positive (equal p) (equal q)
  where
    goal : Point → ℤ
    goal t = value_at l.goal t.den (take n t.nums)

    equal : (t : Point) → m.bottom *ℤ affine_at r t ≡ m.top *ℤ goal t
    equal t = m.equal t.den t.nums ∙ ap (λ z. m.top *ℤ z) (value_take n l.goal t.den t.nums s)

pub system_orders : (g : Game) (s : RowSystem) (p q : Point) → GoalIsShort (coordinates g) g.leader → IsSystemOf g s → IsBelowBy s.objective p q ↔ IsBetter g.leader p.den (take (coordinates g) p.nums) q.den (take (coordinates g) q.nums)
system_orders g s p q short m = order_by s.objective g.leader (coordinates g) p q short m.objective

-- What comes next after a node's work.
use Rattle.std.proofs.Common.{◌≡◌, ◌≢◌, ℕ, zero, suc, ◌+◌, ◌-◌, ◌<◌, ◌≤◌, ◌⊎◌, inl, inr, ℤ, pos, negsuc, ◌-ℤ◌, ◌*ℤ◌, ◌≤ℤ◌, ◌<ℤ◌, Bool, true, false, cond, ◌&&◌, ◌||◌, not, List, [], ◌∷◌, length, get_or, drop, Option, Some, None, arith, refl, sym, ap, ap₂, subst, ◌∙◌}
use Rattle.std.proofs.lemmas.Bool.{and_parts, both_ways}
use Rattle.std.proofs.lemmas.List.{drop_more, drop_all}
use Rattle.std.proofs.lemmas.List.Elements.{All-get_or}
use Rattle.std.proofs.lemmas.Int.{ints}
use lib.IntN.{zero-*ℤ}
use Rattle.std.specs.Option.{option_map}
use Rattle.std.specs.declared.cmp.Ordering.{Ordering}
use Rattle.std.specs.declared.cmp.Ordering.TheVariants.{Less, Equal, Greater}
use Rattle.emp_algebra.proofs.Ring.{var, ◌⊖◌, ◌⊗◌, by_ring}
use Rattle.emp_algebra.proofs.Order.{linear, mul_lt_right, mul_le_right}
use Rattle.emp_algebra.proofs.Laws.{mul_pos}
use Rattle.emp_num.specs.Orders.{IsOrder}
use Rattle.emp_num.specs.FracSpec.{IsQuotient}
use Rattle.emp_num.specs.declared.frac.Frac.{Frac}
use Rattle.emp_algebra.specs.Vector.{is_zero}
use Rattle.emp_rows.specs.declared.system.Kind.TheVariants.{Zero}
use Rattle.emp_rows.specs.declared.system.RowSystem.{RowSystem}
use Rattle.emp_rows.specs.Systems.{IsMember}
use Rattle.emp_dict.specs.declared.label.Label.TheVariants.{Quantity}
use Rattle.emp_dict.specs.declared.label.Mark.TheVariants.{Fixed}
use Rattle.emp_dict.specs.declared.dict.Dict.{Dict}
use Rattle.emp_dict.specs.Dicts.{dictionary_of}
use Rattle.emp_dict.specs.Dictionary.{Dictionary, IsSound, line_at, column_label, mark_at, row_of, label_eq}
use Rattle.emp_dict.specs.Places.{is_positive}
use Rattle.emp_dict.proofs.Labels.{label_eq-false}
use Rattle.emp_step.specs.Steps.{mark_of_label}
use Rattle.emp_step.specs.Levels.{IsLevel}
use Rattle.emp_step.specs.Laws.{IsNumber, HasObjective}
use Rattle.emp_step.proofs.Labels.{row_found}
use Rattle.emp_decide.proofs.Rows.{line_is}
use Rattle.emp_search.specs.Search.{is_bounded, above_by, above, still_by, still, first_pair, split_or}
use Rattle.emp_search.proofs.Showing.{FirstAt, first_some}
use Rattle.emp_walk.specs.declared.next.Next.{Next}
use Rattle.emp_walk.specs.declared.next.Test.{Test}
use Rattle.emp_walk.specs.declared.next.Test.TheVariants.{Above, Broken}
use Rattle.emp_walk.specs.Fits.{IsAt, AskFits}
use Rattle.emp_walk.specs.Decisions.{passes, decision_of, split_next, SplitFits, NextFits}

-- ---- a Fixed member is not above 0, and stays 0
not_above : (d : Dictionary) → IsLevel d → (k : ℕ) → mark_at d k ≡ Fixed → above d k ≡ false
not_above d l k f = go (row_of d (Quantity k)) refl
  where
    go : (o : Option ℕ) → row_of d (Quantity k) ≡ o → above_by d o ≡ false
    go None e = refl
    go (Some i) e = let r = row_found d (Quantity k) i e in ap is_positive (l.fixed i k r.below r.label f)

stays : (d : Dictionary) → IsLevel d → (k j : ℕ) → mark_at d k ≡ Fixed → j < length d.columns → mark_of_label d (column_label d j) ≢ Fixed → still d j k ≡ true
stays d l k j f b free = go (row_of d (Quantity k)) refl
  where
    go : (o : Option ℕ) → row_of d (Quantity k) ≡ o → still_by d j (label_eq (Quantity k) (column_label d j)) o ≡ true
    go None e = ap not (label_eq-false (Quantity k) (column_label d j) (λ z. free (sym (ap (mark_of_label d) z) ∙ f)))
    go (Some i) e = let r = row_found d (Quantity k) i e in ap₂ (λ x y. is_zero x && is_zero y) (l.fixed i k r.below r.label f) (l.still i k j r.below r.label f b free)

-- ---- the members of a pair that passes a test may be fixed
-- the column that moves is not Fixed
abbrev pub TestFree : Dictionary → Test → Type 0
TestFree d Above = Unit {0}
TestFree d (Broken j) = (j < length d.columns) × (mark_of_label d (column_label d j) ≢ Fixed)

passes_free : (d : Dictionary) (t : Test) → IsLevel d → TestFree d t → (q : ℕ × ℕ) → passes d t q ≡ true → (mark_at d q.0 ≢ Fixed) × (mark_at d q.1 ≢ Fixed)
passes_free d Above l f (a, b) e =
    let h = and_parts (above d a) (above d b) e in
    (λ z. both_ways (above d a) (not_above d l a z) h.0, λ z. both_ways (above d b) (not_above d l b z) h.1)
passes_free d (Broken j) l f (a, b) e = (λ z. go (still d j a) (still d j b) e (inl (stays d l a j z f.0 f.1)), λ z. go (still d j a) (still d j b) e (inr (stays d l b j z f.0 f.1)))
  where
    go : (x y : Bool) → not (x || y) ≡ true → (x ≡ true) ⊎ (y ≡ true) → ⊥
    go true y e h = absurd (cc)
    go false true e h = absurd (cc)
    go false false e (inl h) = absurd (cc)
    go false false e (inr h) = absurd (cc)

pub first_number : (s : RowSystem) (d : Dictionary) → IsAt s d → (i : ℕ) → i < length s.pairs → IsNumber d (get_or s.pairs i (0, 0)).0
first_number s d a i b = let m = All-get_or (λ q. IsMember s.kinds q.0) s.pairs i (0, 0) b s.sound.first_members in (m.above, let w = m.within in let o = s.sound.one_kind_each in let c = a.dictionary.marks in omega arith)

pub second_number : (s : RowSystem) (d : Dictionary) → IsAt s d → (i : ℕ) → i < length s.pairs → IsNumber d (get_or s.pairs i (0, 0)).1
second_number s d a i b = let m = All-get_or (λ q. IsMember s.kinds q.1) s.pairs i (0, 0) b s.sound.second_members in (m.above, let w = m.within in let o = s.sound.one_kind_each in let c = a.dictionary.marks in omega arith)

-- the first pair that passes a test may be split, where the members of such a pair are not Fixed
pub split_first : (s : RowSystem) (d : Dictionary) (test : ℕ × ℕ → Bool) (k : ℕ) → IsAt s d → ((q : ℕ × ℕ) → test q ≡ true → (mark_at d q.0 ≢ Fixed) × (mark_at d q.1 ≢ Fixed)) → first_pair test 1 s.pairs ≡ Some k → SplitFits s d k
split_first s d test k a free e =
    let x : FirstAt test 1 s.pairs k = first_some test 1 s.pairs k e in
    let at : k - 1 ≡ x.place = let i = x.is in omega arith in
    let u = free (get_or s.pairs x.place (0, 0)) x.passes in
    record {
      above = let i = x.is in omega arith;
      within = let i = x.is in let b = x.below in omega arith;
      first = subst (λ n. AskFits d (get_or s.pairs n (0, 0)).0 Zero) (sym at) (first_number s d a x.place x.below, u.0);
      second = subst (λ n. AskFits d (get_or s.pairs n (0, 0)).1 Zero) (sym at) (second_number s d a x.place x.below, u.1);
    }

pub split_fits : (s : RowSystem) (d : Dictionary) (t : Test) (k : ℕ) → IsAt s d → TestFree d t → first_pair (passes d t) 1 s.pairs ≡ Some k → SplitFits s d k
split_fits s d t k a f = split_first s d (passes d t) k a (passes_free d t a.level f)

-- ---- the pairs one by one
pub pair_hit : (test : ℕ × ℕ → Bool) (ps : List (ℕ × ℕ)) (i : ℕ) → i < length ps → test (get_or ps i (0, 0)) ≡ true → first_pair test (i + 1) (drop i ps) ≡ Some (i + 1)
pair_hit test ps i b e = ap (first_pair test (i + 1)) (drop_more ps i (0, 0) b) ∙ ap (λ c. cond c (Some (i + 1)) (first_pair test (i + 1 + 1) (drop (i + 1) ps))) e

pub pair_miss : (test : ℕ × ℕ → Bool) (ps : List (ℕ × ℕ)) (i : ℕ) → i < length ps → test (get_or ps i (0, 0)) ≡ false → first_pair test (i + 1) (drop i ps) ≡ first_pair test (i + 1 + 1) (drop (i + 1) ps)
pair_miss test ps i b e = ap (first_pair test (i + 1)) (drop_more ps i (0, 0) b) ∙ ap (λ c. cond c (Some (i + 1)) (first_pair test (i + 1 + 1) (drop (i + 1) ps))) e

pub pair_none : (test : ℕ × ℕ → Bool) (ps : List (ℕ × ℕ)) (i : ℕ) → length ps ≤ i → first_pair test (i + 1) (drop i ps) ≡ None
pair_none test ps i b = ap (first_pair test (i + 1)) (drop_all i ps b)

-- ---- the split, where there is one
pub split_same : (b : Option Dictionary) (d : Dictionary) (end : Next) (o : Option ℕ) → decision_of b d (split_next end o) ≡ split_or (decision_of b d end) o
split_same b d end None = refl
split_same b d end (Some k) = refl

pub split_next_fits : (s : RowSystem) (d : Dictionary) (t : Test) (end : Next) (o : Option ℕ) → IsAt s d → TestFree d t → NextFits s d end → o ≡ first_pair (passes d t) 1 s.pairs → NextFits s d (split_next end o)
split_next_fits s d t end None a f h e = h
split_next_fits s d t end (Some k) a f h e = split_fits s d t k a f (sym e)

-- ---- the sign of a difference of two quotients
above_is : (x : ℤ) → pos 0 <ℤ x → is_positive x ≡ true
above_is (pos zero) h = absurd (omega (arith, ints))
above_is (pos (suc n)) h = refl
above_is (negsuc n) h = absurd (omega (arith, ints))

below_is : (x : ℤ) → x ≤ℤ pos 0 → is_positive x ≡ false
below_is (pos zero) h = refl
below_is (pos (suc n)) h = absurd (omega (arith, ints))
below_is (negsuc n) h = refl

le_or_lt : (a b : ℤ) → (a ≤ℤ b) ⊎ (b <ℤ a)
le_or_lt a b = grind (arith, ints)

same_sign : (x p y q : ℤ) → pos 0 <ℤ p → pos 0 <ℤ q → x *ℤ p ≡ y *ℤ q → is_positive x ≡ is_positive y
same_sign x p y q pp qp e = go (le_or_lt x (pos 0)) (le_or_lt y (pos 0))
  where
    wrong : (x p y q : ℤ) → pos 0 <ℤ p → pos 0 <ℤ q → x *ℤ p ≡ y *ℤ q → x ≤ℤ pos 0 → pos 0 <ℤ y → ⊥
    wrong x p y q pp qp e h k =
        let a : (x *ℤ p) ≤ℤ (pos 0 *ℤ p) = mul_le_right x (pos 0) p h (omega (arith, ints)) in
        let b : (pos 0 *ℤ q) <ℤ (y *ℤ q) = mul_lt_right (pos 0) y q k qp in
        omega (arith, linear, zero-*ℤ p, zero-*ℤ q)

    go : (x ≤ℤ pos 0) ⊎ (pos 0 <ℤ x) → (y ≤ℤ pos 0) ⊎ (pos 0 <ℤ y) → is_positive x ≡ is_positive y
    go (inl h) (inl k) = below_is x h ∙ sym (below_is y k)
    go (inl h) (inr k) = absurd (wrong x p y q pp qp e h k)
    go (inr h) (inl k) = absurd (wrong y q x p qp pp (sym e) k h)
    go (inr h) (inr k) = above_is x h ∙ sym (above_is y k)

-- in lowest terms or not, a quotient stands to another as it does
pub quotients_stand : (a b : Frac) (m d n e : ℤ) → pos 0 <ℤ d → pos 0 <ℤ e → IsQuotient a m d → IsQuotient b n e → is_positive (a.num *ℤ b.den -ℤ b.num *ℤ a.den) ≡ is_positive (m *ℤ e -ℤ n *ℤ d)
quotients_stand a b m d n e dp ep qa qb =
    same_sign (a.num *ℤ b.den -ℤ b.num *ℤ a.den) (d *ℤ e) (m *ℤ e -ℤ n *ℤ d) (a.den *ℤ b.den) (mul_pos d e dp ep) (mul_pos a.den b.den a.positive b.positive)
    (by_ring (a.num ∷ b.den ∷ b.num ∷ a.den ∷ d ∷ e ∷ []) ((var 0 ⊗ var 1 ⊖ var 2 ⊗ var 3) ⊗ (var 4 ⊗ var 5)) (var 0 ⊗ var 4 ⊗ (var 1 ⊗ var 5) ⊖ var 2 ⊗ var 5 ⊗ (var 3 ⊗ var 4)) refl
    ∙ (ap₂ (λ x y. x *ℤ (b.den *ℤ e) -ℤ y *ℤ (a.den *ℤ d)) qa qb
    ∙ by_ring (m ∷ a.den ∷ b.den ∷ e ∷ n ∷ d ∷ []) (var 0 ⊗ var 1 ⊗ (var 2 ⊗ var 3) ⊖ var 4 ⊗ var 2 ⊗ (var 1 ⊗ var 5)) ((var 0 ⊗ var 3 ⊖ var 4 ⊗ var 5) ⊗ (var 1 ⊗ var 2)) refl))

-- what an order says of the difference
pub order_above : (o : Ordering) (x y : ℤ) → IsOrder o x y → (o ≡ Greater → is_positive (x -ℤ y) ≡ true) × (o ≢ Greater → is_positive (x -ℤ y) ≡ false)
order_above Less x y h = (λ z. absurd (cc), λ z. below_is (x -ℤ y) (omega (arith, linear)))
order_above Equal x y h = (λ z. absurd (cc), λ z. below_is (x -ℤ y) (omega (arith, linear)))
order_above Greater x y h = (λ z. above_is (x -ℤ y) (omega (arith, linear)), λ z. absurd (z refl))

pub bounded_is : (best : Option Dict) (e : Dict) (d : Dictionary) (r : ℕ) (reached : Bool) (a b : Frac) → best ≡ Some e → HasObjective (dictionary_of e) → IsSound d → r < length d.rows → IsQuotient a (line_at (dictionary_of e) (length e.marks)).constant (line_at (dictionary_of e) (length e.marks)).denom → IsQuotient b (line_at d r).constant (line_at d r).denom → reached ≡ not (is_positive (a.num *ℤ b.den -ℤ b.num *ℤ a.den)) → reached ≡ is_bounded (option_map dictionary_of best) d r
bounded_is best e d r reached a b q t s h qa qb x =
    let le = line_is (dictionary_of e) e.sound (length e.marks) t in
    let ld = line_is d s r h in
    x ∙ (ap not (quotients_stand a b (line_at (dictionary_of e) (length e.marks)).constant (line_at (dictionary_of e) (length e.marks)).denom (line_at d r).constant (line_at d r).denom le.positive ld.positive qa qb) ∙ sym (ap (λ o. is_bounded (option_map dictionary_of o) d r) q))

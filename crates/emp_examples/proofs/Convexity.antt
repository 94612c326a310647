-- The examples of convexity.
use Rattle.std.proofs.Common.{◌≡◌, ℕ, zero, suc, ℤ, pos, negsuc, neg_ℤ, ◌+ℤ◌, ◌-ℤ◌, ◌*ℤ◌, ◌<ℤ◌, ◌≤ℤ◌, true, false, [], ◌∷◌, arith, refl, sym, ap, subst}
use Rattle.std.proofs.lemmas.Int.{ints}
use Rattle.std.proofs.lemmas.Option.{same_Some}
use Rattle.emp_algebra.proofs.Laws.{mul_pos}
use Rattle.emp_algebra.proofs.Order.{linear, square_nonneg, le_cancel_right, cancel_right}
use Rattle.emp_algebra.proofs.Ring.{var, lit, neg, ◌⊕◌, ◌⊖◌, ◌⊗◌, by_ring}
use Rattle.emp_algebra.specs.Vector.{cell}
use Rattle.emp_num.specs.Ratio.{Ratio, plus, minus, times, SameRatio}
use Rattle.emp_num.specs.Point.{Point, coordinate}
use Rattle.emp_ast.specs.declared.model.Sense.{Sense}
use Rattle.emp_ast.specs.declared.model.Sense.TheVariants.{Min, Max}
use Rattle.emp_ast.specs.Parties.{block, names_variable, defines}
use Rattle.emp_ast.specs.Rivals.{MakesHold, IsGiven}
use Rattle.emp_ast.specs.Convex.{IsBetween, Bends, counted}
use Rattle.emp_ast.specs.SameLaws.{SameFraction}
use Rattle.emp_ast.proofs.Fractions.{fraction_itself, fraction_on, fraction_plus, fraction_minus, fraction_times, same_same, sign_from, sign_to, at_most_gap, at_most_over}
use Rattle.emp_ast.proofs.Given.{put, put_there, put_elsewhere}
use Rattle.emp_examples.specs.Small.{whole_point}
use Rattle.emp_examples.specs.Parties.{c_is_square}
use Rattle.emp_examples.specs.Rivals.{curved, curved_by}
use Rattle.emp_examples.specs.Bilevel.{ExamplesOfConvexity}
use Rattle.emp_examples.proofs.Short.{each_of_one}

-- ---- the given value is the square
square_of : Point → Ratio
square_of p = times (coordinate p 1) (coordinate p 1)

same_square : (p q : Point) → SameRatio (coordinate p 1) (coordinate q 1) → SameFraction (square_of p) (square_of q)
unfolding square_of
same_square p q h = let one : SameFraction (coordinate p 1) (coordinate q 1) = record { left = p.positive; right = q.positive; same = h } in fraction_times (coordinate p 1) (coordinate q 1) (coordinate p 1) (coordinate q 1) one one

given_square : (s : Sense) (p : Point) (f : Ratio) → IsGiven (curved c_is_square) (curved_by s) (block 0) p f → SameFraction f (square_of p)
unfolding square_of
given_square s p f h =
    let r = put p 0 f h.fraction in
    let holds : SameRatio (coordinate r 0) (square_of r) = h.defined 0 c_is_square refl refl r (put_there p 0 f h.fraction) (put_elsewhere p 0 f h.fraction) in
    let there : SameFraction f (coordinate r 0) = record { left = h.fraction; right = r.positive; same = sym (put_there p 0 f h.fraction) } in
    let squares = same_square r p (put_elsewhere p 0 f h.fraction 1 (λ e. omega arith)) in
    fraction_on f (coordinate r 0) (square_of p) there (fraction_on (coordinate r 0) (square_of r) (square_of p) (record { left = r.positive; right = squares.left; same = holds }) squares)

is_given : (s : Sense) (p : Point) → IsGiven (curved c_is_square) (curved_by s) (block 0) p (square_of p)
unfolding square_of
is_given s p = record {
  fraction = (same_square p p refl).left;
  defined = each_of_one (λ e q. defines (curved c_is_square) (curved_by s) (block 0) e ≡ true → MakesHold q 0 p (square_of p)) c_is_square (λ h r c others.
      let squares = same_square p r (sym (others 1 (λ e. omega arith))) in
      same_same (coordinate r 0) (coordinate r 0) (square_of p) (square_of r) (fraction_itself (coordinate r 0) r.positive) squares c);
  otherwise = λ none. absurd (none 0 c_is_square refl refl);
}

-- the second difference of the values is that of the squares
second : Ratio → Ratio → Ratio → Ratio
second f g h = minus (plus g h) (plus f f)

same_second : (f g h x y z : Ratio) → SameFraction f x → SameFraction g y → SameFraction h z → SameFraction (second f g h) (second x y z)
unfolding second
same_second f g h x y z a b c = fraction_minus (plus g h) (plus y z) (plus f f) (plus x x) (fraction_plus g y h z b c) (fraction_plus f x f x a a)

-- b/e and c/g lie at equal distances round a/d
squares_bend : (a d b e c g : ℤ) → (b *ℤ g +ℤ c *ℤ e) *ℤ (d *ℤ d) ≡ (a *ℤ d +ℤ a *ℤ d) *ℤ (e *ℤ g) → pos 0 ≤ℤ ((b *ℤ b *ℤ (g *ℤ g) +ℤ c *ℤ c *ℤ (e *ℤ e)) *ℤ (d *ℤ d *ℤ (d *ℤ d)) +ℤ neg_ℤ (a *ℤ a *ℤ (d *ℤ d) +ℤ a *ℤ a *ℤ (d *ℤ d)) *ℤ (e *ℤ e *ℤ (g *ℤ g)))
squares_bend a d b e c g h =
    let y = (a *ℤ d +ℤ a *ℤ d) *ℤ (e *ℤ g) in
    let z = (b *ℤ g +ℤ c *ℤ e) *ℤ (d *ℤ d) in
    let s = (b *ℤ g -ℤ c *ℤ e) *ℤ (d *ℤ d) in
    let m = (b *ℤ b *ℤ (g *ℤ g) +ℤ c *ℤ c *ℤ (e *ℤ e)) *ℤ (d *ℤ d *ℤ (d *ℤ d)) +ℤ neg_ℤ (a *ℤ a *ℤ (d *ℤ d) +ℤ a *ℤ a *ℤ (d *ℤ d)) *ℤ (e *ℤ e *ℤ (g *ℤ g)) in
    let squares : z *ℤ z ≡ y *ℤ y = ap (λ t. t *ℤ t) h in
    let both : m *ℤ pos 2 +ℤ y *ℤ y ≡ s *ℤ s +ℤ z *ℤ z =
    by_ring (a ∷ d ∷ b ∷ e ∷ c ∷ g ∷ [])
    (((var 2 ⊗ var 2 ⊗ (var 5 ⊗ var 5) ⊕ var 4 ⊗ var 4 ⊗ (var 3 ⊗ var 3)) ⊗ (var 1 ⊗ var 1 ⊗ (var 1 ⊗ var 1)) ⊕ neg (var 0 ⊗ var 0 ⊗ (var 1 ⊗ var 1) ⊕ var 0 ⊗ var 0 ⊗ (var 1 ⊗ var 1)) ⊗ (var 3 ⊗ var 3 ⊗ (var 5 ⊗ var 5))) ⊗ lit (pos 2) ⊕ (var 0 ⊗ var 1 ⊕ var 0 ⊗ var 1) ⊗ (var 3 ⊗ var 5) ⊗ ((var 0 ⊗ var 1 ⊕ var 0 ⊗ var 1) ⊗ (var 3 ⊗ var 5)))
    ((var 2 ⊗ var 5 ⊖ var 4 ⊗ var 3) ⊗ (var 1 ⊗ var 1) ⊗ ((var 2 ⊗ var 5 ⊖ var 4 ⊗ var 3) ⊗ (var 1 ⊗ var 1)) ⊕ (var 2 ⊗ var 5 ⊕ var 4 ⊗ var 3) ⊗ (var 1 ⊗ var 1) ⊗ ((var 2 ⊗ var 5 ⊕ var 4 ⊗ var 3) ⊗ (var 1 ⊗ var 1)))
    refl in
    let zero : pos 0 *ℤ pos 2 ≡ pos 0 = refl in
    le_cancel_right (pos 0) m (pos 2) (omega (arith, linear, square_nonneg s)) (omega (arith, ints))

bends_min : (p q r : Point) (f g h : Ratio) → SameRatio (plus (coordinate q 1) (coordinate r 1)) (plus (coordinate p 1) (coordinate p 1)) → IsGiven (curved c_is_square) (curved_by Min) (block 0) p f → IsGiven (curved c_is_square) (curved_by Min) (block 0) q g → IsGiven (curved c_is_square) (curved_by Min) (block 0) r h → Bends Min f g h
unfolding second square_of
bends_min p q r f g h half a b c =
    let d = same_second f g h (square_of p) (square_of q) (square_of r) (given_square Min p f a) (given_square Min q g b) (given_square Min r h c) in
    (at_most_gap (plus f f) (plus g h)).1
    (sign_from (second (square_of p) (square_of q) (square_of r)).top (second (square_of p) (square_of q) (square_of r)).bottom (second f g h).top (second f g h).bottom d.right d.left (sym d.same)
    (squares_bend (cell p.nums 1) p.den (cell q.nums 1) q.den (cell r.nums 1) r.den half))

-- where no variable moves the second difference is 0
bends_none : (p q r : Point) (f g h : Ratio) → SameRatio (coordinate q 1) (coordinate p 1) → SameRatio (coordinate r 1) (coordinate p 1) → IsGiven (curved c_is_square) (curved_by Max) (block 0) p f → IsGiven (curved c_is_square) (curved_by Max) (block 0) q g → IsGiven (curved c_is_square) (curved_by Max) (block 0) r h → Bends Max f g h
unfolding second
bends_none p q r f g h q_same r_same a b c =
    let s = square_of p in
    let d = same_second f g h s s s (given_square Max p f a) (fraction_on g (square_of q) s (given_square Max q g b) (same_square q p q_same)) (fraction_on h (square_of r) s (given_square Max r h c) (same_square r p r_same)) in
    let t = plus s s in
    let none : t.top *ℤ t.bottom +ℤ neg_ℤ t.top *ℤ t.bottom ≡ pos 0 = by_ring (t.top ∷ t.bottom ∷ []) (var 0 ⊗ var 1 ⊕ neg (var 0) ⊗ var 1) (lit (pos 0)) refl in
    (at_most_over (plus g h) (plus f f)).1 (sign_to (second s s s).top (second s s s).bottom (second f g h).top (second f g h).bottom d.right d.left (sym d.same) (omega (arith, linear)))

between_ones : IsBetween (curved c_is_square) (λ v. names_variable (counted (curved c_is_square) (curved_by Max) 0) v) (whole_point (pos 0 ∷ pos 0 ∷ [])) (whole_point (pos 0 ∷ pos 1 ∷ [])) (whole_point (pos 0 ∷ negsuc 0 ∷ []))
between_ones = record { fits = (refl, refl, refl); half = half; outside = outside }
  where
    half : (v : ℕ) → SameRatio (plus (coordinate (whole_point (pos 0 ∷ pos 1 ∷ [])) v) (coordinate (whole_point (pos 0 ∷ negsuc 0 ∷ [])) v)) (plus (coordinate (whole_point (pos 0 ∷ pos 0 ∷ [])) v) (coordinate (whole_point (pos 0 ∷ pos 0 ∷ [])) v))
    half zero = refl
    half (suc zero) = refl
    half (suc (suc v)) = refl

    outside : (v : ℕ) → names_variable (counted (curved c_is_square) (curved_by Max) 0) v ≡ false → SameRatio (coordinate (whole_point (pos 0 ∷ pos 1 ∷ [])) v) (coordinate (whole_point (pos 0 ∷ pos 0 ∷ [])) v)
    outside zero h = refl
    outside (suc zero) h = cc
    outside (suc (suc v)) h = refl

-- where nothing moves to one side, nothing moves to the other
third_side : (a d b e c g : ℤ) → pos 0 <ℤ d → pos 0 <ℤ e → b *ℤ d ≡ a *ℤ e → (b *ℤ g +ℤ c *ℤ e) *ℤ (d *ℤ d) ≡ (a *ℤ d +ℤ a *ℤ d) *ℤ (e *ℤ g) → c *ℤ d ≡ a *ℤ g
third_side a d b e c g up_d up_e h k =
    cancel_right (c *ℤ d) (a *ℤ g) (d *ℤ e)
    (let one : (b *ℤ g +ℤ c *ℤ e) *ℤ (d *ℤ d) ≡ b *ℤ d *ℤ (g *ℤ d) +ℤ c *ℤ d *ℤ (d *ℤ e) = by_ring (b ∷ g ∷ c ∷ e ∷ d ∷ []) ((var 0 ⊗ var 1 ⊕ var 2 ⊗ var 3) ⊗ (var 4 ⊗ var 4)) (var 0 ⊗ var 4 ⊗ (var 1 ⊗ var 4) ⊕ var 2 ⊗ var 4 ⊗ (var 4 ⊗ var 3)) refl in
    let two : (a *ℤ d +ℤ a *ℤ d) *ℤ (e *ℤ g) ≡ a *ℤ e *ℤ (g *ℤ d) +ℤ a *ℤ g *ℤ (d *ℤ e) = by_ring (a ∷ d ∷ e ∷ g ∷ []) ((var 0 ⊗ var 1 ⊕ var 0 ⊗ var 1) ⊗ (var 2 ⊗ var 3)) (var 0 ⊗ var 2 ⊗ (var 3 ⊗ var 1) ⊕ var 0 ⊗ var 3 ⊗ (var 1 ⊗ var 2)) refl in
    let same = ap (λ z. z *ℤ (g *ℤ d)) h in
    omega (arith, linear))
    (mul_pos d e up_d up_e)

pub examples_of_convexity : ExamplesOfConvexity
unfolding square_of
examples_of_convexity = record {
  square = λ s w e p q r b f g h i j k. subst (λ (o : Sense × ℕ). Bends o.0 f g h) (same_Some (Min, 0) (s, w) e) (bends_min p q r f g h (b.half 1) i j k);
  not_for_max = λ h.
      let p = whole_point (pos 0 ∷ pos 0 ∷ []) in
      let q = whole_point (pos 0 ∷ pos 1 ∷ []) in
      let r = whole_point (pos 0 ∷ negsuc 0 ∷ []) in
      let l = h Max 0 refl p q r between_ones (square_of p) (square_of q) (square_of r) (is_given Max p) (is_given Max q) (is_given Max r) in
      absurd l.le;
  not_up_to_one = λ h.
      let p = whole_point (pos 0 ∷ pos 0 ∷ []) in
      let q = whole_point (pos 0 ∷ pos 1 ∷ []) in
      let r = whole_point (pos 0 ∷ negsuc 0 ∷ []) in
      let l = h Max 0 refl p q r between_ones (square_of p) (square_of q) (square_of r) (is_given Max p) (is_given Max q) (is_given Max r) in
      absurd l.le;
  bends_down = omega (arith, ints);
  bends_up = λ h. omega (arith, ints);
  in_none = λ s w e p q r b f g h i j k. subst (λ (o : Sense × ℕ). Bends o.0 f g h) (same_Some (Max, 0) (s, w) e) (bends_none p q r f g h (b.outside 1 refl) (third_side (cell p.nums 1) p.den (cell q.nums 1) q.den (cell r.nums 1) r.den p.positive q.positive (b.outside 1 refl) (b.half 1)) i j k);
}

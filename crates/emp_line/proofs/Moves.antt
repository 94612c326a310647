-- The lines after a pivot hold where the lines before it do.
use Rattle.std.proofs.Common.{◌≡◌, ◌≢◌, ◌↔◌, ℕ, zero, suc, ◌+◌, ◌<◌, ℤ, pos, neg_ℤ, ◌+ℤ◌, ◌-ℤ◌, ◌*ℤ◌, ◌<ℤ◌, Bool, true, false, cond, List, [], ◌∷◌, length, set, get_or, Option, Some, None, arith, refl, sym, ap, subst, ◌∙◌, length-set}
use Rattle.std.specs.Prelude.{nat_eq}
use Rattle.std.proofs.lemmas.Bool.{eqb-true, eq-eqb}
use lib.IntN.{zero-*ℤ, *ℤ-zero}
use Rattle.emp_algebra.specs.Vector.{cell, dot, scale, add_rows, is_zero}
use Rattle.emp_algebra.proofs.Ring.{var, lit, neg, ◌⊕◌, ◌⊗◌, by_ring}
use Rattle.emp_algebra.proofs.Laws.{mul_pos}
use Rattle.emp_algebra.proofs.Order.{cancel_right}
use Rattle.emp_algebra.proofs.Vectors.{dot-set_coordinate, length-scale}
use Rattle.emp_line.specs.declared.line.Line.{Line}
use Rattle.emp_line.specs.Pivot.{sign, line_content, reduced, turned, factors, combined, combination_wide, moved, both_there, pivoted_from, no_line}
use Rattle.emp_line.proofs.Exchange.{defect, sign_square, is_zero-true, turned_is, combined_is, factors_meet, reduced_is}

-- a product is 0 where a factor is, and where it is 0 beside a factor above 0, the other one is
zero_factor : (x g : ℤ) → x *ℤ g ≡ pos 0 → pos 0 <ℤ g → x ≡ pos 0
zero_factor x g e p = cancel_right x (pos 0) g (e ∙ sym (zero-*ℤ g)) p

-- ---- the line of the pivot
turned_forth : (d : ℤ) (l : Line) (v : ℤ) (ws : List ℤ) (j : ℕ) → j < length l.cells → j < length ws → defect d l v ws ≡ pos 0 → defect d (turned l j) (cell ws j) (set ws j v) ≡ pos 0
turned_forth d l v ws j in_row in_ws h = turned_is d l v ws j in_row in_ws ∙ (ap (λ z. neg_ℤ (sign (cell l.cells j)) *ℤ z) h ∙ *ℤ-zero (neg_ℤ (sign (cell l.cells j))))

turned_back : (d : ℤ) (l : Line) (v : ℤ) (ws : List ℤ) (j : ℕ) → is_zero (cell l.cells j) ≡ false → j < length l.cells → j < length ws → defect d (turned l j) (cell ws j) (set ws j v) ≡ pos 0 → defect d l v ws ≡ pos 0
turned_back d l v ws j other in_row in_ws h =
    let s : ℤ = sign (cell l.cells j) in
    let x : ℤ = defect d l v ws in
    by_ring (x ∷ []) (var 0) (lit (pos 1) ⊗ var 0) refl
    ∙ (ap (λ z. z *ℤ x) (sym (sign_square (cell l.cells j) other))
    ∙ (by_ring (s ∷ x ∷ []) (var 0 ⊗ var 0 ⊗ var 1) (neg (var 0) ⊗ (neg (var 0) ⊗ var 1)) refl
    ∙ (ap (λ z. neg_ℤ s *ℤ z) (sym (turned_is d l v ws j in_row in_ws) ∙ h) ∙ *ℤ-zero (neg_ℤ s))))

pub turned_same : (d : ℤ) (l : Line) (v : ℤ) (ws : List ℤ) (j : ℕ) → is_zero (cell l.cells j) ≡ false → j < length l.cells → j < length ws → (defect d l v ws ≡ pos 0) ↔ (defect d (turned l j) (cell ws j) (set ws j v) ≡ pos 0)
turned_same d l v ws j other in_row in_ws = (turned_forth d l v ws j in_row in_ws, turned_back d l v ws j other in_row in_ws)

-- ---- another line
-- k is the line l after the pivot with the turned line t in column j
pub record Moves (t : Line) (j : ℕ) (l k : Line) : Type 0 where
  pub width : length k.cells ≡ length l.cells
  pub denom : pos 0 <ℤ k.denom
  pub still : cell l.cells j ≡ pos 0 → k ≡ l
  pub same : (d u v : ℤ) (ws : List ℤ) → j < length ws → defect d t (cell ws j) (set ws j v) ≡ pos 0 → (defect d l u ws ≡ pos 0) ↔ (defect d k u (set ws j v) ≡ pos 0)

defect_still : (d u v : ℤ) (l : Line) (ws : List ℤ) (j : ℕ) → cell l.cells j ≡ pos 0 → j < length ws → defect d l u (set ws j v) ≡ defect d l u ws
defect_still d u v l ws j e h =
    ap (λ x. l.constant *ℤ d +ℤ x -ℤ l.denom *ℤ u) (dot-set_coordinate l.cells ws j v h ∙ ap (λ x. dot l.cells ws +ℤ x *ℤ (v -ℤ cell ws j)) e ∙ by_ring (dot l.cells ws ∷ (v -ℤ cell ws j) ∷ []) (var 0 ⊕ lit (pos 0) ⊗ var 1) (var 0) refl)

moves_still : (t : Line) (j : ℕ) (l : Line) → pos 0 <ℤ l.denom → cell l.cells j ≡ pos 0 → Moves t j l l
moves_still t j l p e = record {
  width = refl;
  denom = p;
  still = λ h. refl;
  same = λ d u v ws in_ws h. (λ z. defect_still d u v l ws j e in_ws ∙ z, λ z. sym (defect_still d u v l ws j e in_ws) ∙ z);
}

length-add_rows : (r s : List ℤ) → length s ≡ length r → length (add_rows r s) ≡ length r
length-add_rows [] s e = e
length-add_rows (a ∷ r) [] e = refl
length-add_rows (a ∷ r) (b ∷ s) e = ap suc (length-add_rows r s (omega arith))

moves_combined : (t : Line) (j : ℕ) (l : Line) → pos 0 <ℤ t.denom → pos 0 <ℤ l.denom → length t.cells ≡ length l.cells → j < length l.cells → is_zero (cell l.cells j) ≡ false → Moves t j l (reduced (combined (factors t.denom (cell l.cells j)) l t j))
moves_combined t j l head_pos p widths in_row other =
    let f = factors t.denom (cell l.cells j) in
    let meet = factors_meet t.denom (cell l.cells j) head_pos in
    let c : Line = combined f l t j in
    let r = reduced_is c (mul_pos f.own l.denom meet.own p) in
    let e : (d u v : ℤ) (ws : List ℤ) → j < length ws → defect d t (cell ws j) (set ws j v) ≡ pos 0 → defect d (reduced c) u (set ws j v) *ℤ line_content c ≡ f.own *ℤ defect d l u ws = λ d u v ws in_ws h.
    r.same d u (set ws j v) ∙ (combined_is d f l t u v ws j meet.same in_row in_ws ∙ (ap (λ z. f.own *ℤ defect d l u ws +ℤ f.other *ℤ z) h ∙ by_ring ((f.own *ℤ defect d l u ws) ∷ f.other ∷ []) (var 0 ⊕ var 1 ⊗ lit (pos 0)) (var 0) refl)) in
    record {
      width = r.width ∙ (length-add_rows (scale f.own (set l.cells j (pos 0))) (scale f.other t.cells) (length-scale f.other t.cells ∙ (widths ∙ sym (length-scale f.own (set l.cells j (pos 0)) ∙ length-set l.cells j (pos 0)))) ∙ (length-scale f.own (set l.cells j (pos 0)) ∙ length-set l.cells j (pos 0)));
      denom = r.denom;
      still = λ z. absurd (let h = ap is_zero z in cc);
      same = λ d u v ws in_ws h. (
        λ z. zero_factor (defect d (reduced c) u (set ws j v)) (line_content c) (e d u v ws in_ws h ∙ (ap (λ x. f.own *ℤ x) z ∙ *ℤ-zero f.own)) r.content,
        λ z. zero_factor (defect d l u ws) f.own (by_ring (defect d l u ws ∷ f.own ∷ []) (var 0 ⊗ var 1) (var 1 ⊗ var 0) refl ∙ (sym (e d u v ws in_ws h) ∙ (ap (λ x. x *ℤ line_content c) z ∙ zero-*ℤ (line_content c)))) meet.own,
      );
    }

pub moved_is : (t l k : Line) (j : ℕ) → pos 0 <ℤ t.denom → pos 0 <ℤ l.denom → length t.cells ≡ length l.cells → j < length l.cells → moved t j l ≡ Some k → Moves t j l k
moved_is t l k j head_pos p widths in_row = go (is_zero (cell l.cells j)) refl
  where
    new : Line
    new = reduced (combined (factors t.denom (cell l.cells j)) l t j)

    by_width : (w : Bool) → is_zero (cell l.cells j) ≡ false → cond w None (Some new) ≡ Some k → Moves t j l k
    by_width true e h = cc
    by_width false e h = let same : new ≡ k = cc in subst (λ x. Moves t j l x) same (moves_combined t j l head_pos p widths in_row e)

    go : (b : Bool) → is_zero (cell l.cells j) ≡ b → cond b (Some l) (cond (combination_wide (factors t.denom (cell l.cells j)) l t j) None (Some new)) ≡ Some k → Moves t j l k
    go true e h = let same : l ≡ k = cc in subst (λ x. Moves t j l x) same (moves_still t j l p (is_zero-true (cell l.cells j) e))
    go false e h = by_width (combination_wide (factors t.denom (cell l.cells j)) l t j) e h

-- ---- all lines
pub record Pivots (at : ℕ) (t : Line) (r j : ℕ) (ls ks : List Line) : Type 0 where
  pub count : length ks ≡ length ls
  pub pivot : (i : ℕ) → i < length ls → at + i ≡ r → get_or ks i no_line ≡ t
  pub others : (i : ℕ) → i < length ls → at + i ≢ r → moved t j (get_or ls i no_line) ≡ Some (get_or ks i no_line)

test_true : (b : Bool) (t k : Line) (m : Option Line) → b ≡ true → cond b (Some t) m ≡ Some k → k ≡ t
test_true true t k m h e = cc
test_true false t k m h e = cc

test_false : (b : Bool) (t k : Line) (m : Option Line) → (b ≡ true → ⊥) → cond b (Some t) m ≡ Some k → m ≡ Some k
test_false true t k m h e = absurd (h refl)
test_false false t k m h e = e

pivots_more : (at : ℕ) (t : Line) (r j : ℕ) (l : Line) (ls : List Line) (k : Line) (ks : List Line) → cond (nat_eq at r) (Some t) (moved t j l) ≡ Some k → Pivots (at + 1) t r j ls ks → Pivots at t r j (l ∷ ls) (k ∷ ks)
pivots_more at t r j l ls k ks e p = record { count = ap suc p.count; pivot = pivot; others = others }
  where
    pivot : (i : ℕ) → i < length (l ∷ ls) → at + i ≡ r → get_or (k ∷ ks) i no_line ≡ t
    pivot zero h q = test_true (nat_eq at r) t k (moved t j l) (eq-eqb at r (omega arith)) e
    pivot (suc i) h q = p.pivot i (omega arith) (omega arith)

    others : (i : ℕ) → i < length (l ∷ ls) → at + i ≢ r → moved t j (get_or (l ∷ ls) i no_line) ≡ Some (get_or (k ∷ ks) i no_line)
    others zero h q = test_false (nat_eq at r) t k (moved t j l) (λ b. q (omega (arith, eqb-true at r b))) e
    others (suc i) h q = p.others i (omega arith) (λ b. q (omega arith))

pub pivoted_from_is : (at : ℕ) (t : Line) (r j : ℕ) (ls ks : List Line) → pivoted_from at t r j ls ≡ Some ks → Pivots at t r j ls ks
pivoted_from_is at t r j [] ks e =
    let same : [] ≡ ks = cc in
    record { count = ap length (sym same); pivot = λ i h. absurd (omega arith); others = λ i h. absurd (omega arith) }
pivoted_from_is at t r j (l ∷ ls) ks e = go (cond (nat_eq at r) (Some t) (moved t j l)) refl (pivoted_from (at + 1) t r j ls) (pivoted_from_is (at + 1) t r j ls) e
  where
    go : (o : Option Line) → cond (nat_eq at r) (Some t) (moved t j l) ≡ o → (p : Option (List Line)) → ((ms : List Line) → p ≡ Some ms → Pivots (at + 1) t r j ls ms) → both_there o p ≡ Some ks → Pivots at t r j (l ∷ ls) ks
    go (Some k) f (Some ms) rest h = let same : k ∷ ms ≡ ks = cc in subst (λ x. Pivots at t r j (l ∷ ls) x) same (pivots_more at t r j l ls k ms f (rest ms refl))
    go (Some k) f None rest h = cc
    go None f p rest h = cc

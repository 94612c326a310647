-- What an exchange keeps of a line: how far the line is from holding, up to a factor that is not 0.
use Rattle.std.proofs.Common.{◌≡◌, ℕ, zero, suc, ◌<◌, ℤ, pos, negsuc, neg_ℤ, ◌+ℤ◌, ◌-ℤ◌, ◌*ℤ◌, ◌<ℤ◌, true, false, List, [], ◌∷◌, All, length, set, unsigned_abs, int_div, arith, refl, sym, ap, ap₂, ◌∙◌, get_or-set_same, length-set}
use Rattle.std.proofs.lemmas.Int.{ints}
use Rattle.std.proofs.lemmas.List.Elements.{All-head, All-tail}
use Prim.Native.Nat.{◌∣◌}
use Rattle.emp_algebra.specs.Vector.{cell, dot, scale, add_rows, is_zero, quotients}
use Rattle.emp_algebra.proofs.Ring.{var, lit, neg, ◌⊕◌, ◌⊖◌, ◌⊗◌, by_ring}
use Rattle.emp_algebra.proofs.Vectors.{dot-scale, dot-add_rows, dot-set_cell, dot-set_coordinate, length-scale, cell-scale}
use Rattle.emp_num.specs.Gcd.{gcd_of, content_of}
use Rattle.emp_num.proofs.Gcds.{quot_exact, divisor_pos, positive_from_product}
use Rattle.emp_num.proofs.GcdLaws.{content_divides}
use Rattle.emp_num.proofs.Divisors.{IsGcd-gcd_of}
use Rattle.emp_line.specs.declared.line.Line.{Line}
use Rattle.emp_line.proofs.Sound.{length-quotients}
use Rattle.emp_line.specs.Pivot.{sign, line_content, reduced, turned_by, turned, Factors, factors, combined}

-- what is missing for the line to hold, where d stands for 1, v for the line's own quantity and ws for those of the columns
abbrev pub defect : ℤ → Line → ℤ → List ℤ → ℤ
defect d l v ws = l.constant *ℤ d +ℤ dot l.cells ws -ℤ l.denom *ℤ v

-- ---- the sign of a cell
pub sign_square : (z : ℤ) → is_zero z ≡ false → sign z *ℤ sign z ≡ pos 1
sign_square (pos zero) h = cc
sign_square (pos (suc n)) h = refl
sign_square (negsuc n) h = refl

pub sign_abs : (z : ℤ) → pos (unsigned_abs z) ≡ sign z *ℤ z
sign_abs (pos zero) = refl
sign_abs (pos (suc n)) = omega (arith, ints)
sign_abs (negsuc n) = omega (arith, ints)

pub abs_pos : (z : ℤ) → is_zero z ≡ false → pos 0 <ℤ pos (unsigned_abs z)
abs_pos (pos zero) h = cc
abs_pos (pos (suc n)) h = omega (arith, ints)
abs_pos (negsuc n) h = omega (arith, ints)

pub is_zero-true : (z : ℤ) → is_zero z ≡ true → z ≡ pos 0
is_zero-true (pos zero) h = refl
is_zero-true (pos (suc n)) h = cc
is_zero-true (negsuc n) h = cc

-- ---- the line of the pivot
turned_by_is : (d s : ℤ) (l : Line) (v : ℤ) (ws : List ℤ) (j : ℕ) → pos (unsigned_abs (cell l.cells j)) ≡ s *ℤ cell l.cells j → j < length l.cells → j < length ws → defect d (turned_by s l j) (cell ws j) (set ws j v) ≡ neg_ℤ s *ℤ defect d l v ws
turned_by_is d s l v ws j size in_row in_ws =
    let k : j < length (scale (neg_ℤ s) l.cells) = rw length-scale in_row in
    let e : dot (set (scale (neg_ℤ s) l.cells) j (s *ℤ l.denom)) (set ws j v) ≡ neg_ℤ s *ℤ (dot l.cells ws +ℤ cell l.cells j *ℤ (v -ℤ cell ws j)) +ℤ (s *ℤ l.denom -ℤ neg_ℤ s *ℤ cell l.cells j) *ℤ v =
    dot-set_cell (scale (neg_ℤ s) l.cells) (set ws j v) j (s *ℤ l.denom) k
    ∙ ap₂ (λ x y. x +ℤ y)
    (dot-scale (neg_ℤ s) l.cells (set ws j v) ∙ ap (λ z. neg_ℤ s *ℤ z) (dot-set_coordinate l.cells ws j v in_ws))
    (ap₂ (λ x y. (s *ℤ l.denom -ℤ x) *ℤ y) (cell-scale (neg_ℤ s) l.cells j) (get_or-set_same ws j v (pos 0) in_ws)) in
    ap₂ (λ x y. neg_ℤ s *ℤ l.constant *ℤ d +ℤ x -ℤ y *ℤ cell ws j) e size
    ∙ by_ring (s ∷ l.denom ∷ l.constant ∷ v ∷ cell l.cells j ∷ cell ws j ∷ dot l.cells ws ∷ d ∷ [])
    (neg (var 0) ⊗ var 2 ⊗ var 7 ⊕ (neg (var 0) ⊗ (var 6 ⊕ var 4 ⊗ (var 3 ⊖ var 5)) ⊕ (var 0 ⊗ var 1 ⊖ neg (var 0) ⊗ var 4) ⊗ var 3) ⊖ var 0 ⊗ var 4 ⊗ var 5)
    (neg (var 0) ⊗ (var 2 ⊗ var 7 ⊕ var 6 ⊖ var 1 ⊗ var 3))
    refl

pub turned_is : (d : ℤ) (l : Line) (v : ℤ) (ws : List ℤ) (j : ℕ) → j < length l.cells → j < length ws → defect d (turned l j) (cell ws j) (set ws j v) ≡ neg_ℤ (sign (cell l.cells j)) *ℤ defect d l v ws
turned_is d l v ws j in_row in_ws = turned_by_is d (sign (cell l.cells j)) l v ws j (sign_abs (cell l.cells j)) in_row in_ws

pub length-turned : (l : Line) (j : ℕ) → length (turned l j).cells ≡ length l.cells
length-turned l j = simp (length-set, length-scale)

-- ---- the other lines
-- own times the line and other times the turned one, where the two meet in column j
pub combined_is : (d : ℤ) (f : Factors) (l t : Line) (u v : ℤ) (ws : List ℤ) (j : ℕ) → f.other *ℤ t.denom ≡ f.own *ℤ cell l.cells j → j < length l.cells → j < length ws → defect d (combined f l t j) u (set ws j v) ≡ f.own *ℤ defect d l u ws +ℤ f.other *ℤ defect d t (cell ws j) (set ws j v)
combined_is d f l t u v ws j meet in_row in_ws =
    let k : j < length (set ws j v) = rw length-set in_ws in
    let e : dot (add_rows (scale f.own (set l.cells j (pos 0))) (scale f.other t.cells)) (set ws j v) ≡ f.own *ℤ (dot l.cells ws +ℤ cell l.cells j *ℤ (v -ℤ cell ws j) +ℤ (pos 0 -ℤ cell l.cells j) *ℤ v) +ℤ f.other *ℤ dot t.cells (set ws j v) =
    dot-add_rows (scale f.own (set l.cells j (pos 0))) (scale f.other t.cells) (set ws j v)
    ∙ ap₂ (λ x y. x +ℤ y)
    (dot-scale f.own (set l.cells j (pos 0)) (set ws j v)
    ∙ ap (λ z. f.own *ℤ z) (dot-set_cell l.cells (set ws j v) j (pos 0) in_row ∙ ap₂ (λ x y. x +ℤ (pos 0 -ℤ cell l.cells j) *ℤ y) (dot-set_coordinate l.cells ws j v in_ws) (get_or-set_same ws j v (pos 0) in_ws)))
    (dot-scale f.other t.cells (set ws j v)) in
    ap (λ x. (f.own *ℤ l.constant +ℤ f.other *ℤ t.constant) *ℤ d +ℤ x -ℤ f.own *ℤ l.denom *ℤ u) e
    ∙ (by_ring (f.own ∷ f.other ∷ l.constant ∷ t.constant ∷ d ∷ dot l.cells ws ∷ cell l.cells j ∷ v ∷ cell ws j ∷ dot t.cells (set ws j v) ∷ l.denom ∷ u ∷ [])
    ((var 0 ⊗ var 2 ⊕ var 1 ⊗ var 3) ⊗ var 4 ⊕ (var 0 ⊗ (var 5 ⊕ var 6 ⊗ (var 7 ⊖ var 8) ⊕ (lit (pos 0) ⊖ var 6) ⊗ var 7) ⊕ var 1 ⊗ var 9) ⊖ var 0 ⊗ var 10 ⊗ var 11)
    (var 0 ⊗ (var 2 ⊗ var 4 ⊕ var 5 ⊖ var 10 ⊗ var 11) ⊕ var 1 ⊗ (var 3 ⊗ var 4 ⊕ var 9) ⊖ var 0 ⊗ var 6 ⊗ var 8)
    refl
    ∙ (ap (λ x. f.own *ℤ defect d l u ws +ℤ f.other *ℤ (t.constant *ℤ d +ℤ dot t.cells (set ws j v)) -ℤ x *ℤ cell ws j) (sym meet)
    ∙ by_ring ((f.own *ℤ defect d l u ws) ∷ f.other ∷ (t.constant *ℤ d +ℤ dot t.cells (set ws j v)) ∷ t.denom ∷ cell ws j ∷ [])
    (var 0 ⊕ var 1 ⊗ var 2 ⊖ var 1 ⊗ var 3 ⊗ var 4)
    (var 0 ⊕ var 1 ⊗ (var 2 ⊖ var 3 ⊗ var 4))
    refl))

-- the two factors: own is above 0, and the line and the turned one meet in the column
pub record Meet (head a : ℤ) : Type 0 where
  pub own : pos 0 <ℤ (factors head a).own
  pub same : (factors head a).other *ℤ head ≡ (factors head a).own *ℤ a

pub factors_meet : (head a : ℤ) → pos 0 <ℤ head → Meet head a
factors_meet head a h =
    let g : ℤ = pos (gcd_of (unsigned_abs head) (unsigned_abs a)) in
    let is = IsGcd-gcd_of (unsigned_abs head) (unsigned_abs a) in
    let p : pos 0 <ℤ g = divisor_pos head (gcd_of (unsigned_abs head) (unsigned_abs a)) is.0 h in
    let e : (factors head a).own *ℤ g ≡ head = quot_exact head g is.0 in
    let f : (factors head a).other *ℤ g ≡ a = quot_exact a g is.1 in
    record {
      own = positive_from_product (factors head a).own g head e p h;
      same = ap (λ z. (factors head a).other *ℤ z) (sym e) ∙ (by_ring ((factors head a).other ∷ (factors head a).own ∷ g ∷ []) (var 0 ⊗ (var 1 ⊗ var 2)) (var 1 ⊗ (var 0 ⊗ var 2)) refl ∙ ap (λ z. (factors head a).own *ℤ z) f);
    }

-- ---- division by what all numbers have in common
dot-quotients : (g : ℤ) (zs ws : List ℤ) → All (λ z. unsigned_abs g ∣ unsigned_abs z) zs → dot (quotients zs g) ws *ℤ g ≡ dot zs ws
dot-quotients g [] ws h = by_ring (g ∷ []) (lit (pos 0) ⊗ var 0) (lit (pos 0)) refl
dot-quotients g (z ∷ zs) [] h = by_ring (g ∷ []) (lit (pos 0) ⊗ var 0) (lit (pos 0)) refl
dot-quotients g (z ∷ zs) (w ∷ ws) h =
    by_ring (int_div z g ∷ w ∷ dot (quotients zs g) ws ∷ g ∷ []) ((var 0 ⊗ var 1 ⊕ var 2) ⊗ var 3) (var 0 ⊗ var 3 ⊗ var 1 ⊕ var 2 ⊗ var 3) refl
    ∙ ap₂ (λ x y. x *ℤ w +ℤ y) (quot_exact z g (All-head (λ z. unsigned_abs g ∣ unsigned_abs z) z zs h)) (dot-quotients g zs ws (All-tail (λ z. unsigned_abs g ∣ unsigned_abs z) z zs h))

pub record Reduces (l : Line) : Type 0 where
  pub content : pos 0 <ℤ line_content l
  pub denom : pos 0 <ℤ (reduced l).denom
  pub width : length (reduced l).cells ≡ length l.cells
  pub same : (d v : ℤ) (ws : List ℤ) → defect d (reduced l) v ws *ℤ line_content l ≡ defect d l v ws

pub reduced_is : (l : Line) → pos 0 <ℤ l.denom → Reduces l
reduced_is l h =
    let in_all = (content_divides 0 (l.denom ∷ l.constant ∷ l.cells)).all in
    let In : ℤ → Type 0 = λ z. content_of (l.denom ∷ l.constant ∷ l.cells) ∣ unsigned_abs z in
    let rest = All-tail In l.denom (l.constant ∷ l.cells) in_all in
    let g : ℤ = line_content l in
    let first = All-head In l.denom (l.constant ∷ l.cells) in_all in
    let p : pos 0 <ℤ g = divisor_pos l.denom (content_of (l.denom ∷ l.constant ∷ l.cells)) first h in
    let e : (reduced l).denom *ℤ g ≡ l.denom = quot_exact l.denom g first in
    let f : (reduced l).constant *ℤ g ≡ l.constant = quot_exact l.constant g (All-head In l.constant l.cells rest) in
    record {
      content = p;
      denom = positive_from_product (reduced l).denom g l.denom e p h;
      width = length-quotients l.cells g;
      same = λ d v ws.
          by_ring ((reduced l).constant ∷ d ∷ dot (reduced l).cells ws ∷ (reduced l).denom ∷ v ∷ g ∷ []) ((var 0 ⊗ var 1 ⊕ var 2 ⊖ var 3 ⊗ var 4) ⊗ var 5) (var 0 ⊗ var 5 ⊗ var 1 ⊕ var 2 ⊗ var 5 ⊖ var 3 ⊗ var 5 ⊗ var 4) refl
          ∙ (ap₂ (λ x y. x *ℤ d +ℤ dot (reduced l).cells ws *ℤ g -ℤ y *ℤ v) f e ∙ ap (λ x. l.constant *ℤ d +ℤ x -ℤ l.denom *ℤ v) (dot-quotients g l.cells ws (All-tail In l.constant l.cells rest)));
    }

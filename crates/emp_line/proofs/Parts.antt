-- The three numbers of a step that is not wide.
use Rattle.std.proofs.Common.{◌≢◌, ℕ, pos, set, cond, Some, None, Result, Ok, Err, MatchResult, sym, ap, subst, ◌∙◌, ◌≡◌, ℤ, ◌+ℤ◌, ◌*ℤ◌, false, ◌||◌, to_z-of_z, arith}
use Rattle.std.proofs.lemmas.Int.{ints}
use mir.Syntax.{w128}
use mir.Val.{SFits}
use Rattle.emp_num.specs.Exact.{IsNarrow, IsWide}
use Rattle.emp_num.specs.declared.exact.Wide.{Wide as WideNumber}
use Rattle.emp_line.specs.Place.{StepGives, moved_wide}
use Rattle.emp_line.specs.declared.line.Line.{Line}
use Rattle.emp_algebra.specs.Vector.{cell}
use Rattle.emp_line.specs.Pivot.{Factors, factors, is_wide, step_wide, steps_wide, combination_wide, combined, reduced, moved}
use Rattle.emp_line.proofs.Steps.{narrow_from, zero_yes, zero_no, or_left, or_right, wide_left, wide_right, wide_sum, none_wide}

pub left_narrow : (f : Factors) (a b : ℤ) → step_wide f a b ≡ false → IsNarrow (f.own *ℤ a)
left_narrow f a b h = narrow_from (f.own *ℤ a) (or_left (is_wide (f.own *ℤ a)) (is_wide (f.other *ℤ b)) (or_left (is_wide (f.own *ℤ a) || is_wide (f.other *ℤ b)) (is_wide (f.own *ℤ a +ℤ f.other *ℤ b)) h))

pub right_narrow : (f : Factors) (a b : ℤ) → step_wide f a b ≡ false → IsNarrow (f.other *ℤ b)
right_narrow f a b h = narrow_from (f.other *ℤ b) (or_right (is_wide (f.own *ℤ a)) (is_wide (f.other *ℤ b)) (or_left (is_wide (f.own *ℤ a) || is_wide (f.other *ℤ b)) (is_wide (f.own *ℤ a +ℤ f.other *ℤ b)) h))

pub sum_narrow : (f : Factors) (a b : ℤ) → step_wide f a b ≡ false → IsNarrow (f.own *ℤ a +ℤ f.other *ℤ b)
sum_narrow f a b h = narrow_from (f.own *ℤ a +ℤ f.other *ℤ b) (or_right (is_wide (f.own *ℤ a) || is_wide (f.other *ℤ b)) (is_wide (f.own *ℤ a +ℤ f.other *ℤ b)) h)

pub fits_narrow : (z : ℤ) → IsNarrow z → SFits w128 z
fits_narrow z h = omega (arith, ints)

pub ruleset parting = (to_z-of_z, left_narrow, right_narrow, sum_narrow)

pub sum_gives : (f : Factors) (a b l r : ℤ) (res : Result ℤ WideNumber) → l ≡ f.own *ℤ a → IsNarrow (f.own *ℤ a) → r ≡ f.other *ℤ b → IsNarrow (f.other *ℤ b) → MatchResult res (λ p. (p ≡ l +ℤ r) × IsNarrow (l +ℤ r)) (λ _. IsWide (l +ℤ r)) → StepGives f a b res
sum_gives f a b l r (Ok z) el hl er hr h =
    let e : l +ℤ r ≡ f.own *ℤ a +ℤ f.other *ℤ b = ap (λ x. x +ℤ r) el ∙ ap (λ y. f.own *ℤ a +ℤ y) er in
    (none_wide f a b hl hr (subst IsNarrow e h.1), h.0 ∙ e)
sum_gives f a b l r (Err w) el hl er hr h =
    let e : l +ℤ r ≡ f.own *ℤ a +ℤ f.other *ℤ b = ap (λ x. x +ℤ r) el ∙ ap (λ y. f.own *ℤ a +ℤ y) er in
    wide_sum f a b (subst IsWide e h)

pub ruleset stepping = (to_z-of_z, wide_left, wide_right, wide_sum, none_wide)

pub narrow_cells : (f : Factors) (l t : Line) (j : ℕ) → combination_wide f l t j ≡ false → steps_wide f (set l.cells j (pos 0)) t.cells ≡ false
narrow_cells f l t j e = or_right (is_wide (f.own *ℤ l.denom) || step_wide f l.constant t.constant) (steps_wide f (set l.cells j (pos 0)) t.cells) e

pub narrow_moves : (t l : Line) (j : ℕ) (f : Factors) → cell l.cells j ≢ pos 0 → f ≡ factors t.denom (cell l.cells j) → moved_wide t j l ≡ false → combination_wide f l t j ≡ false
narrow_moves t l j f n e h =
    ap (λ g. combination_wide g l t j) e ∙ (sym (ap (λ b. cond b false (combination_wide (factors t.denom (cell l.cells j)) l t j)) (zero_no (cell l.cells j) n)) ∙ h)

pub moved_still : (t l : Line) (j : ℕ) → cell l.cells j ≡ pos 0 → moved t j l ≡ Some l
moved_still t l j e = ap (λ b. cond b (Some l) (cond (combination_wide (factors t.denom (cell l.cells j)) l t j) None (Some (reduced (combined (factors t.denom (cell l.cells j)) l t j))))) (zero_yes (cell l.cells j) e)

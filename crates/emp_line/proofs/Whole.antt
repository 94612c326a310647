-- All lines: whether the pivot gives lines.
use Rattle.std.proofs.Common.{◌≡◌, ◌≢◌, ℕ, zero, suc, ◌+◌, ◌<◌, ◌≤◌, Bool, true, false, cond, ◌||◌, List, [], ◌∷◌, length, drop, get_or, set, Option, Some, None, arith, refl, ap, sym, ◌∙◌, to_z-of_z, below_more, length-set, get_or-set_same, get_or-set_other}
use Rattle.std.specs.Prelude.{nat_eq}
use Rattle.std.proofs.lemmas.Bool.{eqb-true, eq-eqb}
use Rattle.std.proofs.lemmas.List.{drop_more, drop_all, get_or_default}
use Rattle.emp_algebra.specs.Vector.{cell, is_zero}
use Rattle.emp_line.specs.declared.line.Line.{Line}
use Rattle.emp_line.specs.Pivot.{factors, reduced, combined, combination_wide, moved, both_there, pivoted_from, no_line}
use Rattle.emp_line.specs.Lines.{line_after}
use Rattle.emp_line.proofs.Moves.{pivoted_from_is}
use Rattle.emp_line.specs.Place.{is_none, moved_wide}

moved_none_by : (z w : Bool) (l k : Line) → is_none (cond z (Some l) (cond w None (Some k))) ≡ cond z false w
moved_none_by true w l k = refl
moved_none_by false true l k = refl
moved_none_by false false l k = refl

pub moved_none : (t l : Line) (j : ℕ) → is_none (moved t j l) ≡ moved_wide t j l
moved_none t l j = moved_none_by (is_zero (cell l.cells j)) (combination_wide (factors t.denom (cell l.cells j)) l t j) l (reduced (combined (factors t.denom (cell l.cells j)) l t j))

test_false : (b : Bool) → (b ≡ true → ⊥) → b ≡ false
test_false true h = absurd (h refl)
test_false false h = refl

pub none_own : (at : ℕ) (t : Line) (r j : ℕ) (l : Line) → at ≡ r → false ≡ is_none (line_after at t r j l)
none_own at t r j l e = sym (ap (λ b. is_none (cond b (Some t) (moved t j l))) (eq-eqb at r e))

pub none_other : (at : ℕ) (t : Line) (r j : ℕ) (l : Line) (w : Bool) → at ≢ r → w ≡ moved_wide t j l → w ≡ is_none (line_after at t r j l)
none_other at t r j l w n e =
    e ∙ (sym (moved_none t l j) ∙ sym (ap (λ b. is_none (cond b (Some t) (moved t j l))) (test_false (nat_eq at r) (λ b. n (eqb-true at r b)))))

both_none : (o : Option Line) (p : Option (List Line)) → is_none (both_there o p) ≡ is_none o || is_none p
both_none (Some l) (Some ls) = refl
both_none (Some l) None = refl
both_none None p = refl

pub none_step : (at : ℕ) (t : Line) (r j : ℕ) (lines : List Line) (x : Line) → at < length lines → x ≡ get_or lines at x → is_none (pivoted_from at t r j (drop at lines)) ≡ is_none (line_after at t r j x) || is_none (pivoted_from (at + 1) t r j (drop (at + 1) lines))
none_step at t r j lines x h e = ap (λ ls. is_none (pivoted_from at t r j ls)) (drop_more lines at x h ∙ ap (λ y. y ∷ drop (at + 1) lines) (sym e)) ∙ both_none (line_after at t r j x) (pivoted_from (at + 1) t r j (drop (at + 1) lines))

pub none_here : (at : ℕ) (t : Line) (r j : ℕ) (lines : List Line) (x : Line) (w b : Bool) → is_none (pivoted_from at t r j (drop at lines)) ≡ w → at < length lines → x ≡ get_or lines at x → b ≡ is_none (line_after at t r j x) → b ≡ true → true ≡ w
none_here at t r j lines x w b i h e f g = sym (none_step at t r j lines x h e ∙ ap (λ y. y || is_none (pivoted_from (at + 1) t r j (drop (at + 1) lines))) (sym f ∙ g)) ∙ i

pub none_next : (at : ℕ) (t : Line) (r j : ℕ) (lines : List Line) (x : Line) (w b : Bool) → is_none (pivoted_from at t r j (drop at lines)) ≡ w → at < length lines → x ≡ get_or lines at x → b ≡ is_none (line_after at t r j x) → b ≡ false → is_none (pivoted_from (at + 1) t r j (drop (at + 1) lines)) ≡ w
none_next at t r j lines x w b i h e f g = sym (none_step at t r j lines x h e ∙ ap (λ y. y || is_none (pivoted_from (at + 1) t r j (drop (at + 1) lines))) (sym f ∙ g)) ∙ i

pub none_all : (at : ℕ) (t : Line) (r j : ℕ) (lines : List Line) (w : Bool) → is_none (pivoted_from at t r j (drop at lines)) ≡ w → length lines ≤ at → false ≡ w
none_all at t r j lines w i h = sym (ap (λ ls. is_none (pivoted_from at t r j ls)) (drop_all at lines h)) ∙ i

pub ruleset testing = (to_z-of_z, none_own, none_other, none_here, none_next, none_all)

-- ---- all lines but one, in place
pub record Done (t : Line) (r j at : ℕ) (old now : List Line) : Type 0 where
  pub count : length now ≡ length old
  pub row : get_or now r no_line ≡ get_or old r no_line
  pub done : (i : ℕ) → i < at → i ≢ r → moved t j (get_or old i no_line) ≡ Some (get_or now i no_line)
  pub rest : (i : ℕ) → at ≤ i → get_or now i no_line ≡ get_or old i no_line

pub done_start : (t : Line) (r j : ℕ) (old : List Line) → Done t r j 0 old old
done_start t r j old = record { count = refl; row = refl; done = λ i h n. absurd (omega arith); rest = λ i h. refl }

pub done_read : (t : Line) (r j at : ℕ) (old now : List Line) (x : Line) → Done t r j at old now → at < length old → x ≡ get_or now at x → x ≡ get_or old at no_line
done_read t r j at old now x d h e = let n = d.count in e ∙ (get_or_default now at x no_line (omega arith) ∙ d.rest at (omega arith))

pub done_moved : (t : Line) (r j at : ℕ) (old now new : List Line) (x y : Line) → Done t r j at old now → at ≢ r → at < length old → x ≡ get_or now at x → moved t j x ≡ Some y → new ≡ set now at y → Done t r j (at + 1) old new
done_moved t r j at old now new x y d n h e m f =
    let count = d.count in
    let same : moved t j (get_or old at no_line) ≡ Some y = ap (moved t j) (sym (done_read t r j at old now x d h e)) ∙ m in
    record {
      count = ap length f ∙ (length-set now at y ∙ d.count);
      row = ap (λ ls. get_or ls r no_line) f ∙ (get_or-set_other now at r y no_line (λ z. n (sym z)) ∙ d.row);
      done = below_more (λ i. i ≢ r → moved t j (get_or old i no_line) ≡ Some (get_or new i no_line)) at
          (λ i k q. d.done i k q ∙ ap Some (sym (ap (λ ls. get_or ls i no_line) f ∙ get_or-set_other now at i y no_line (omega arith))))
          (λ q. same ∙ ap Some (sym (ap (λ ls. get_or ls at no_line) f ∙ get_or-set_same now at y no_line (omega arith))));
      rest = λ i k. ap (λ ls. get_or ls i no_line) f ∙ (get_or-set_other now at i y no_line (omega arith) ∙ d.rest i (omega arith));
    }

pub done_own : (t : Line) (r j at : ℕ) (old now new : List Line) → Done t r j at old now → at ≡ r → new ≡ now → Done t r j (at + 1) old new
done_own t r j at old now new d e f = record {
  count = ap length f ∙ d.count;
  row = ap (λ ls. get_or ls r no_line) f ∙ d.row;
  done = λ i k q. d.done i (omega arith) q ∙ ap Some (sym (ap (λ ls. get_or ls i no_line) f));
  rest = λ i k. ap (λ ls. get_or ls i no_line) f ∙ d.rest i (omega arith);
}

-- ---- the whole pivot
there : {X : Type 0} (o : Option X) → is_none o ≡ false → (x : X) × (o ≡ Some x)
there (Some x) e = (x, refl)
there None e = cc

pub narrow_others : (t : Line) (r j : ℕ) (lines : List Line) (i : ℕ) → is_none (pivoted_from 0 t r j lines) ≡ false → i < length lines → i ≢ r → moved_wide t j (get_or lines i no_line) ≡ false
narrow_others t r j lines i e h n =
    let s = there (pivoted_from 0 t r j lines) e in
    let p = pivoted_from_is 0 t r j lines s.0 s.1 in
    sym (moved_none t (get_or lines i no_line) j) ∙ ap is_none (p.others i h (omega arith))

pub pivots_back : (at : ℕ) (t : Line) (r j : ℕ) (ls ks : List Line) → length ks ≡ length ls → ((i : ℕ) → i < length ls → at + i ≡ r → get_or ks i no_line ≡ t) → ((i : ℕ) → i < length ls → at + i ≢ r → moved t j (get_or ls i no_line) ≡ Some (get_or ks i no_line)) → pivoted_from at t r j ls ≡ Some ks
pivots_back at t r j [] [] c p o = refl
pivots_back at t r j [] (k ∷ ks) c p o = absurd (omega arith)
pivots_back at t r j (l ∷ ls) [] c p o = absurd (omega arith)
pivots_back at t r j (l ∷ ls) (k ∷ ks) c p o =
    ap (λ q. both_there (line_after at t r j l) q) (pivots_back (at + 1) t r j ls ks (omega arith) (λ i h e. p (suc i) (omega arith) (omega arith)) (λ i h e. o (suc i) (omega arith) (λ z. e (omega arith))))
    ∙ ap (λ q. both_there q (Some ks)) (here (nat_eq at r) refl)
  where
    here : (b : Bool) → nat_eq at r ≡ b → cond (nat_eq at r) (Some t) (moved t j l) ≡ Some k
    here true e = ap (λ b. cond b (Some t) (moved t j l)) e ∙ ap Some (sym (p 0 (omega arith) (omega (arith, eqb-true at r e))))
    here false e = ap (λ b. cond b (Some t) (moved t j l)) e ∙ o 0 (omega arith) (λ z. let q = eq-eqb at r (omega arith) in cc)

pub ruleset moving = (done_start, done_moved, done_own)

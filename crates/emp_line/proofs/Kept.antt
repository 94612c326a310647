-- The lines after a pivot are lines.
use Rattle.std.proofs.Common.{ℕ, suc, ◌+◌, ◌≡◌, Bool, true, false, cond, List, [], ◌∷◌, Option, Some, None, length, refl, ap, subst, nat_eq}
use Rattle.std.specs.List.{All}
use Rattle.std.proofs.lemmas.List.Elements.{All-nil, All-cons, All-head, All-tail}
use Rattle.emp_algebra.specs.Vector.{cell, is_zero}
use Rattle.emp_line.specs.declared.line.Line.{Line}
use Rattle.emp_line.specs.Pivot.{factors, combined, combination_wide, reduced, moved, both_there, pivoted_from}
use Rattle.emp_line.specs.Lines.{IsLine, line_after}
use Rattle.emp_line.proofs.Sound.{combined_sound, reduced_sound, own_positive}

pub moved_sound : (w : ℕ) (t : Line) (j : ℕ) (l x : Line) → IsLine w l → IsLine w t → moved t j l ≡ Some x → IsLine w x
moved_sound w t j l x s r e = go (is_zero (cell l.cells j)) e
  where
    whole : (b : Bool) → combination_wide (factors t.denom (cell l.cells j)) l t j ≡ b → cond b None (Some (reduced (combined (factors t.denom (cell l.cells j)) l t j))) ≡ Some x → IsLine w x
    whole true q e = absurd (cc)
    whole false q e =
        let k : reduced (combined (factors t.denom (cell l.cells j)) l t j) ≡ x = cc in
        subst (IsLine w) k (reduced_sound w (combined (factors t.denom (cell l.cells j)) l t j) (combined_sound w (factors t.denom (cell l.cells j)) l t j s r (own_positive t.denom (cell l.cells j) r.positive) q))

    go : (b : Bool) → cond b (Some l) (cond (combination_wide (factors t.denom (cell l.cells j)) l t j) None (Some (reduced (combined (factors t.denom (cell l.cells j)) l t j)))) ≡ Some x → IsLine w x
    go true e = let k : l ≡ x = cc in subst (IsLine w) k s
    go false e = whole (combination_wide (factors t.denom (cell l.cells j)) l t j) refl e

after_sound : (w at : ℕ) (t : Line) (r j : ℕ) (l x : Line) → IsLine w l → IsLine w t → line_after at t r j l ≡ Some x → IsLine w x
after_sound w at t r j l x s k e = go (nat_eq at r) e
  where
    go : (b : Bool) → cond b (Some t) (moved t j l) ≡ Some x → IsLine w x
    go true e = let q : t ≡ x = cc in subst (IsLine w) q k
    go false e = moved_sound w t j l x s k e

pub pivoted_from_sound : (w at : ℕ) (t : Line) (r j : ℕ) (lines new : List Line) → IsLine w t → All (IsLine w) lines → pivoted_from at t r j lines ≡ Some new → All (IsLine w) new × (length new ≡ length lines)
pivoted_from_sound w at t r j [] new k s e = let q : [] ≡ new = cc in subst (λ (ls : List Line). All (IsLine w) ls × (length ls ≡ 0)) q (All-nil (IsLine w), refl)
pivoted_from_sound w at t r j (l ∷ lines) new k s e =
    go (line_after at t r j l) (pivoted_from (at + 1) t r j lines) e (λ x q. after_sound w at t r j l x (All-head (IsLine w) l lines s) k q) (λ xs q. pivoted_from_sound w (at + 1) t r j lines xs k (All-tail (IsLine w) l lines s) q)
  where
    go : (o : Option Line) (p : Option (List Line)) → both_there o p ≡ Some new → ((x : Line) → o ≡ Some x → IsLine w x) → ((xs : List Line) → p ≡ Some xs → All (IsLine w) xs × (length xs ≡ length lines)) → All (IsLine w) new × (length new ≡ suc (length lines))
    go None p e f g = absurd (cc)
    go (Some x) None e f g = absurd (cc)
    go (Some x) (Some xs) e f g =
        let q : x ∷ xs ≡ new = cc in
        let h = g xs refl in
        subst (λ (ls : List Line). All (IsLine w) ls × (length ls ≡ suc (length lines))) q (All-cons (IsLine w) x xs (f x refl) h.0, ap suc h.1)

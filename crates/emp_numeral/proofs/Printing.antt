-- Texts written one after another.
use Rattle.std.proofs.Common.{◌≡◌, ◌≢◌, ℕ, ◌+◌, ◌<◌, ℤ, pos, negsuc, zero, suc, true, false, List, [], ◌∷◌, ◌++◌, length, take, get_or, set, arith, refl, sym, ap, ◌∙◌, append_assoc}
use Rattle.emp_numeral.specs.FracText.{is_one}
use Rattle.std.proofs.lemmas.List.{take_more, take_more_set}

pub put_more : (out text before : List ℕ) (at i : ℕ) → take (at + i) out ≡ before ++ take i text → i < length text → at + i < length out → take (at + (i + 1)) (set out (at + i) (get_or text i 0)) ≡ before ++ take (i + 1) text
put_more out text before at i e h k =
    let same : at + (i + 1) ≡ at + i + 1 = omega arith in
    ap (λ n. take n (set out (at + i) (get_or text i 0))) same
    ∙ (take_more_set out (at + i) (get_or text i 0) k
    ∙ (ap (λ t. t ++ get_or text i 0 ∷ []) e
    ∙ (append_assoc before (take i text) (get_or text i 0 ∷ []) ∙ ap (λ t. before ++ t) (sym (take_more text i 0 h)))))

pub is_one_true : (z : ℤ) → z ≡ pos 1 → is_one z ≡ true
is_one_true z e = ap is_one e

pub is_one_false : (z : ℤ) → z ≢ pos 1 → is_one z ≡ false
is_one_false (pos zero) h = refl
is_one_false (pos (suc zero)) h = absurd (h refl)
is_one_false (pos (suc (suc n))) h = refl
is_one_false (negsuc n) h = refl

pub ruleset putting = (put_more, append_assoc)

pub ruleset printing = (is_one_true, is_one_false, append_assoc)

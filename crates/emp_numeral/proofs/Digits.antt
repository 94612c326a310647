-- The digits that a text begins with, and digits without their last zeros.
use Rattle.std.proofs.Common.{◌≡◌, ℕ, ◌+◌, ◌-◌, ◌<◌, ◌≤◌, Bool, true, false, cond, nat_eq, List, [], ◌∷◌, ◌++◌, length, take, drop, get_or, arith, refl, sym, ap, ◌∙◌, append_assoc}
use Rattle.std.proofs.lemmas.List.{drop_more, drop_all, take_more, append-nil}
use Rattle.emp_numeral.specs.Numeral.{digit, digits_of, after_digits, before_trimmed, trimmed}

-- ---- one more digit
pub digits_on : (b : ℕ) (bs : List ℕ) (d : Bool) → digit b ≡ d → digits_of (b ∷ bs) ≡ cond d (b ∷ digits_of bs) []
digits_on b bs d e = ap (λ x. cond x (b ∷ digits_of bs) []) e

pub after_on : (b : ℕ) (bs : List ℕ) (d : Bool) → digit b ≡ d → after_digits (b ∷ bs) ≡ cond d (after_digits bs) (b ∷ bs)
after_on b bs d e = ap (λ x. cond x (after_digits bs) (b ∷ bs)) e

pub digits_step : (t : List ℕ) (i : ℕ) → digits_of t ≡ take i t ++ digits_of (drop i t) → i < length t → digit (get_or t i 0) ≡ true → digits_of t ≡ take (i + 1) t ++ digits_of (drop (i + 1) t)
digits_step t i e h d =
    e
    ∙ (ap (λ s. take i t ++ digits_of s) (drop_more t i 0 h)
    ∙ (ap (λ s. take i t ++ s) (digits_on (get_or t i 0) (drop (i + 1) t) true d)
    ∙ (sym (append_assoc (take i t) (get_or t i 0 ∷ []) (digits_of (drop (i + 1) t))) ∙ ap (λ s. s ++ digits_of (drop (i + 1) t)) (sym (take_more t i 0 h)))))

pub after_step : (t : List ℕ) (i : ℕ) → after_digits t ≡ after_digits (drop i t) → i < length t → digit (get_or t i 0) ≡ true → after_digits t ≡ after_digits (drop (i + 1) t)
after_step t i e h d = e ∙ (ap after_digits (drop_more t i 0 h) ∙ after_on (get_or t i 0) (drop (i + 1) t) true d)

pub digits_stop : (t : List ℕ) (i : ℕ) → digits_of t ≡ take i t ++ digits_of (drop i t) → i < length t → digit (get_or t i 0) ≡ false → take i t ≡ digits_of t
digits_stop t i e h d =
    sym (e ∙ (ap (λ s. take i t ++ digits_of s) (drop_more t i 0 h) ∙ (ap (λ s. take i t ++ s) (digits_on (get_or t i 0) (drop (i + 1) t) false d) ∙ append-nil (take i t))))

pub after_stop : (t : List ℕ) (i : ℕ) → after_digits t ≡ after_digits (drop i t) → i < length t → digit (get_or t i 0) ≡ false → drop i t ≡ after_digits t
after_stop t i e h d =
    sym (e ∙ (ap after_digits (drop_more t i 0 h) ∙ (after_on (get_or t i 0) (drop (i + 1) t) false d ∙ sym (drop_more t i 0 h))))

pub digits_end : (t : List ℕ) (i : ℕ) → digits_of t ≡ take i t ++ digits_of (drop i t) → length t ≤ i → take i t ≡ digits_of t
digits_end t i e h = sym (e ∙ (ap (λ s. take i t ++ digits_of s) (drop_all i t h) ∙ append-nil (take i t)))

pub after_end : (t : List ℕ) (i : ℕ) → after_digits t ≡ after_digits (drop i t) → length t ≤ i → drop i t ≡ after_digits t
after_end t i e h = drop_all i t h ∙ sym (e ∙ ap after_digits (drop_all i t h))

pub ruleset counting = (digits_step, after_step, digits_stop, after_stop, digits_end, after_end)

-- ---- zeros at the end
trimmed_zero : (xs : List ℕ) → trimmed (xs ++ 48 ∷ []) ≡ trimmed xs
trimmed_zero [] = refl
trimmed_zero (x ∷ xs) = ap (before_trimmed x) (trimmed_zero xs)

before_pushed : (x : ℕ) (xs : List ℕ) (b : ℕ) → before_trimmed x (xs ++ b ∷ []) ≡ x ∷ (xs ++ b ∷ [])
before_pushed x [] b = refl
before_pushed x (c ∷ cs) b = refl

pub trimmed_other : (xs : List ℕ) (b : ℕ) → nat_eq b 48 ≡ false → trimmed (xs ++ b ∷ []) ≡ xs ++ b ∷ []
trimmed_other [] b e = ap (λ d. cond d [] (b ∷ [])) e
trimmed_other (x ∷ xs) b e = ap (before_trimmed x) (trimmed_other xs b e) ∙ before_pushed x xs b

last_taken : (t : List ℕ) (n : ℕ) → 0 < n → n ≤ length t → take n t ≡ take (n - 1) t ++ get_or t (n - 1) 0 ∷ []
last_taken t n h k =
    let e : n ≡ n - 1 + 1 = omega arith in
    ap (λ m. take m t) e ∙ take_more t (n - 1) 0 (omega arith)

pub trimmed_step : (t : List ℕ) (n : ℕ) → trimmed (take n t) ≡ trimmed t → 0 < n → n ≤ length t → get_or t (n - 1) 0 ≡ 48 → trimmed (take (n - 1) t) ≡ trimmed t
trimmed_step t n e h k z =
    sym (ap trimmed (last_taken t n h k) ∙ (ap (λ b. trimmed (take (n - 1) t ++ b ∷ [])) z ∙ trimmed_zero (take (n - 1) t))) ∙ e

pub trimmed_stop : (t : List ℕ) (n : ℕ) → trimmed (take n t) ≡ trimmed t → 0 < n → n ≤ length t → nat_eq (get_or t (n - 1) 0) 48 ≡ false → take n t ≡ trimmed t
trimmed_stop t n e h k z =
    last_taken t n h k ∙ (sym (trimmed_other (take (n - 1) t) (get_or t (n - 1) 0) z) ∙ (sym (ap trimmed (last_taken t n h k)) ∙ e))

pub ruleset trimming = (trimmed_step, trimmed_stop)

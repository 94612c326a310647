-- Facts on what a desk tells, joined over calls.
use Rattle.std.proofs.Common.{◌≡◌, ℕ, ◌<◌, ◌≤◌, ◌⊎◌, inl, inr, Option, Some, None, arith}
use Rattle.emp_desk.specs.Desk.{Contents, Told, Rose}

pub told_join : (P Q R : Contents → Contents → Type 0) → ((x y z : Contents) → P x y → Q y z → R x z) → (a b c : Option Contents) → Told P a b → Told Q b c → Told R a c
told_join P Q R h None None None p q = tt
told_join P Q R h None None (Some z) p q = absurd q
told_join P Q R h None (Some y) c p q = absurd p
told_join P Q R h (Some x) None c p q = absurd p
told_join P Q R h (Some x) (Some y) None p q = absurd q
told_join P Q R h (Some x) (Some y) (Some z) p q = h x y z p q

pub told_both : (P Q R : Contents → Contents → Type 0) → ((x y : Contents) → P x y → Q x y → R x y) → (a b : Option Contents) → Told P a b → Told Q a b → Told R a b
told_both P Q R h None None p q = tt
told_both P Q R h None (Some y) p q = absurd p
told_both P Q R h (Some x) None p q = absurd p
told_both P Q R h (Some x) (Some y) p q = h x y p q

pub told_map : (P R : Contents → Contents → Type 0) → ((x y : Contents) → P x y → R x y) → (a b : Option Contents) → Told P a b → Told R a b
told_map P R h a b p = told_both P P R (λ x y k l. h x y k) a b p p

-- a count that rose in the first of two calls, or in the second, rose in both
pub rose_first : (a b c : ℕ) → Rose a b → b ≤ c → a ≤ b → Rose a c
rose_first a b c (inl h) k m = inl (omega arith)
rose_first a b c (inr h) k m = go (le_cases b c k)
  where
    le_cases : (b c : ℕ) → b ≤ c → (b ≡ c) ⊎ (b < c)
    le_cases b c k = grind arith

    go : (b ≡ c) ⊎ (b < c) → Rose a c
    go (inl e) = inr (cc)
    go (inr l) = inl (omega arith)

pub rose_second : (a b c : ℕ) → Rose b c → a ≤ b → Rose a c
rose_second a b c (inl h) k = inl (omega arith)
rose_second a b c (inr h) k = inr h

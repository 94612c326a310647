-- The pairs of what is asked: their members are to be at least 0, and all differ.
use Rattle.std.proofs.Common.{◌≡◌, ◌⊎◌, inl, inr, ℕ, zero, suc, ◌+◌, ◌-◌, ◌<◌, ◌≤◌, List, [], ◌∷◌, ◌++◌, length, get_or, refl, sym, ap, subst, ◌∙◌, arith, append_assoc, length-append}
use Rattle.std.specs.List.{All}
use Rattle.std.proofs.lemmas.List.Elements.{All-nil, All-cons}
use Rattle.emp_rows.specs.declared.system.Kind.{Kind}
use Rattle.emp_rows.specs.declared.system.Kind.TheVariants.{Zero, Nonneg}
use Rattle.emp_rows.specs.Systems.{IsMember, members, AllDiffer}
use Rattle.emp_kkt.specs.declared.asked.Asked.{Asked}
use Rattle.emp_kkt.specs.declared.asked.Asked.TheVariants.{ToBeZero, ToBeNonneg, Pair}
use Rattle.emp_kkt.specs.Items.{items_of, asked_kinds, asked_pairs}

pub kinds_count : (cs : List Asked) → length (asked_kinds cs) ≡ length (items_of cs)
kinds_count [] = refl
kinds_count (ToBeZero i ∷ cs) = ap suc (kinds_count cs)
kinds_count (ToBeNonneg i ∷ cs) = ap suc (kinds_count cs)
kinds_count (Pair a b ∷ cs) = ap (λ k. suc (suc k)) (kinds_count cs)

-- ---- members
member_at : (pre post : List Kind) (k : ℕ) → k ≡ length pre + 1 → IsMember (pre ++ Nonneg ∷ post) k
member_at pre post k e = record {
  above = omega (arith, e);
  within = let l = length-append pre (Nonneg ∷ post) in omega (arith, e, l);
  nonneg = ap (λ m. get_or (pre ++ Nonneg ∷ post) m Zero) (let z : k - 1 ≡ length pre = omega (arith, e) in z) ∙ here pre;
}
  where
    here : (xs : List Kind) → get_or (xs ++ Nonneg ∷ post) (length xs) Zero ≡ Nonneg
    here [] = refl
    here (x ∷ xs) = here xs

both_members : (ks : List Kind) (P : ℕ × ℕ → ℕ) (pre : List Kind) (before : ℕ) (cs : List Asked) → before ≡ length pre → ks ≡ pre ++ asked_kinds cs → ((b : ℕ) → (P (b + 2, b + 1) ≡ b + 2) ⊎ (P (b + 2, b + 1) ≡ b + 1)) → All (λ p. IsMember ks (P p)) (asked_pairs before cs)
both_members ks P pre before [] e f one = All-nil (λ p. IsMember ks (P p))
both_members ks P pre before (ToBeZero i ∷ cs) e f one = both_members ks P (pre ++ Zero ∷ []) (before + 1) cs (omega (arith, e, length-append pre (Zero ∷ []))) (f ∙ sym (append_assoc pre (Zero ∷ []) (asked_kinds cs))) one
both_members ks P pre before (ToBeNonneg i ∷ cs) e f one = both_members ks P (pre ++ Nonneg ∷ []) (before + 1) cs (omega (arith, e, length-append pre (Nonneg ∷ []))) (f ∙ sym (append_assoc pre (Nonneg ∷ []) (asked_kinds cs))) one
both_members ks P pre before (Pair a b ∷ cs) e f one =
    All-cons (λ p. IsMember ks (P p)) (before + 2, before + 1) (asked_pairs (before + 2) cs)
    (here (one before))
    (both_members ks P (pre ++ Nonneg ∷ Nonneg ∷ []) (before + 2) cs (omega (arith, e, length-append pre (Nonneg ∷ Nonneg ∷ []))) (f ∙ sym (append_assoc pre (Nonneg ∷ Nonneg ∷ []) (asked_kinds cs))) one)
  where
    first : IsMember ks (before + 1)
    first = subst (λ (l : List Kind). IsMember l (before + 1)) (sym f) (member_at pre (Nonneg ∷ asked_kinds cs) (before + 1) (omega (arith, e)))

    second : IsMember ks (before + 2)
    second = subst (λ (l : List Kind). IsMember l (before + 2)) (append_assoc pre (Nonneg ∷ []) (Nonneg ∷ asked_kinds cs) ∙ sym f) (member_at (pre ++ Nonneg ∷ []) (asked_kinds cs) (before + 2) (omega (arith, e, length-append pre (Nonneg ∷ []))))

    here : (P (before + 2, before + 1) ≡ before + 2) ⊎ (P (before + 2, before + 1) ≡ before + 1) → IsMember ks (P (before + 2, before + 1))
    here (inl g) = subst (IsMember ks) (sym g) second
    here (inr g) = subst (IsMember ks) (sym g) first

pub first_members : (cs : List Asked) → All (λ p. IsMember (asked_kinds cs) p.0) (asked_pairs 0 cs)
first_members cs = both_members (asked_kinds cs) (λ p. p.0) [] 0 cs refl refl (λ b. inl refl)

pub second_members : (cs : List Asked) → All (λ p. IsMember (asked_kinds cs) p.1) (asked_pairs 0 cs)
second_members cs = both_members (asked_kinds cs) (λ p. p.1) [] 0 cs refl refl (λ b. inr refl)

-- ---- all differ
abbrev AllAbove : ℕ → List ℕ → Type 0
AllAbove k xs = (i : ℕ) → i < length xs → k ≤ get_or xs i 0

above_cons : (k x : ℕ) (xs : List ℕ) → k ≤ x → AllAbove k xs → AllAbove k (x ∷ xs)
above_cons k x xs h f zero l = h
above_cons k x xs h f (suc i) l = f i (omega (arith, l))

above_less : (j k : ℕ) (xs : List ℕ) → j ≤ k → AllAbove k xs → AllAbove j xs
above_less j k xs h f i l = let g = f i l in omega (arith, h, g)

record Rises (k : ℕ) (xs : List ℕ) : Type 0 where
  pub above : AllAbove k xs
  pub apart : AllDiffer xs

differ_cons : (x : ℕ) (xs : List ℕ) → ((i : ℕ) → i < length xs → x ≡ get_or xs i 0 → ⊥) → AllDiffer xs → AllDiffer (x ∷ xs)
differ_cons x xs n f zero zero h l e = omega (arith, h)
differ_cons x xs n f zero (suc j) h l e = n j (omega (arith, l)) e
differ_cons x xs n f (suc i) zero h l e = omega (arith, h)
differ_cons x xs n f (suc i) (suc j) h l e = f i j (omega (arith, h)) (omega (arith, l)) e

rises_less : (j k : ℕ) (xs : List ℕ) → j ≤ k → Rises k xs → Rises j xs
rises_less j k xs h f = record { above = above_less j k xs h f.above; apart = f.apart }

rises_pair : (k : ℕ) (xs : List ℕ) → Rises (k + 3) xs → Rises (k + 1) ((k + 2) ∷ ((k + 1) ∷ xs))
rises_pair k xs f = record {
  above = above_cons (k + 1) (k + 2) ((k + 1) ∷ xs) (omega arith) (above_cons (k + 1) (k + 1) xs (omega arith) (above_less (k + 1) (k + 3) xs (omega arith) f.above));
  apart = differ_cons (k + 2) ((k + 1) ∷ xs) first (differ_cons (k + 1) xs (λ i l g. let a = f.above i l in omega (arith, g, a)) f.apart);
}
  where
    first : (i : ℕ) → i < length ((k + 1) ∷ xs) → k + 2 ≡ get_or ((k + 1) ∷ xs) i 0 → ⊥
    first zero l g = omega (arith, g)
    first (suc i) l g = let a = f.above i (omega (arith, l)) in omega (arith, g, a)

pairs_rise : (before : ℕ) (cs : List Asked) → Rises (before + 1) (members (asked_pairs before cs))
pairs_rise before [] = record { above = λ i l. absurd (omega (arith, l)); apart = λ i j h l e. omega (arith, l) }
pairs_rise before (ToBeZero i ∷ cs) = rises_less (before + 1) (before + 1 + 1) (members (asked_pairs (before + 1) cs)) (omega arith) (pairs_rise (before + 1) cs)
pairs_rise before (ToBeNonneg i ∷ cs) = rises_less (before + 1) (before + 1 + 1) (members (asked_pairs (before + 1) cs)) (omega arith) (pairs_rise (before + 1) cs)
pairs_rise before (Pair a b ∷ cs) = rises_pair before (members (asked_pairs (before + 2) cs)) (subst (λ k. Rises k (members (asked_pairs (before + 2) cs))) (let z : before + 2 + 1 ≡ before + 3 = omega arith in z) (pairs_rise (before + 2) cs))

pub all_differ : (cs : List Asked) → AllDiffer (members (asked_pairs 0 cs))
all_differ cs = (pairs_rise 0 cs).apart

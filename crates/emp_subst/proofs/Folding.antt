-- Folds over values that are 0 past their end.
use Rattle.std.proofs.Common.{◌≡◌, ℕ, zero, suc, ◌+◌, ◌<◌, ◌≤◌, List, [], ◌∷◌, ◌++◌, length, get_or, take, arith, refl, sym, ap, ap₂, subst, ◌∙◌}
use Rattle.std.proofs.lemmas.List.{take_more, take_all}
use Rattle.emp_num.specs.Whole.{whole}
use Rattle.emp_num.specs.declared.frac.Frac.{Frac}
use Rattle.emp_ast.specs.declared.tree.VarId.{VarId}
use Rattle.emp_form.specs.Calls.{Formula, given, added, multiplied}
use Rattle.emp_poly.specs.declared.quad.Quad.{Quad}
use Rattle.emp_poly.specs.Written.{entry, linear_term, linear_from, square_term, square_from, written_value, LinearWithin, SquareWithin, IsWithin}

-- ---- one more 0
pub entry_pad : (xs ys : List Frac) (k : ℕ) → ys ≡ whole 0 ∷ [] → entry (xs ++ ys) k ≡ entry xs k
entry_pad xs ys k e = ap (λ zs. entry (xs ++ zs) k) e ∙ padded xs k
  where
    padded : (xs : List Frac) (k : ℕ) → entry (xs ++ whole 0 ∷ []) k ≡ entry xs k
    padded [] zero = refl
    padded [] (suc k) = refl
    padded (x ∷ xs) zero = refl
    padded (x ∷ xs) (suc k) = padded xs k

-- ---- the same entries, the same fold
linear_same : (ts : List (VarId × Frac)) (s : Formula) (xs ys : List Frac) → ((k : ℕ) → entry xs k ≡ entry ys k) → linear_from s ts xs ≡ linear_from s ts ys
linear_same [] s xs ys h = refl
linear_same (t ∷ ts) s xs ys h = ap (λ x. linear_from (added s (multiplied (given t.1) (given x))) ts xs) (h t.0.at) ∙ linear_same ts (linear_term s t ys) xs ys h

square_same : (ts : List (VarId × VarId × Frac)) (s : Formula) (xs ys : List Frac) → ((k : ℕ) → entry xs k ≡ entry ys k) → square_from s ts xs ≡ square_from s ts ys
square_same [] s xs ys h = refl
square_same (t ∷ ts) s xs ys h =
    ap₂ (λ x y. square_from (added s (multiplied (given t.2) (multiplied (given x) (given y)))) ts xs) (h t.0.at) (h t.1.at) ∙ square_same ts (square_term s t ys) xs ys h

pub written_same : (q : Quad) (xs ys : List Frac) → ((k : ℕ) → entry xs k ≡ entry ys k) → written_value q xs ≡ written_value q ys
written_same q xs ys h = ap (λ s. square_from s q.square xs) (linear_same q.linear (given q.constant) xs ys h) ∙ square_same q.square (linear_from (given q.constant) q.linear ys) xs ys h

-- ---- how many variables terms reach
pub linear_up : (ts : List (VarId × Frac)) (n k : ℕ) → n ≤ k → LinearWithin n ts → LinearWithin k ts
linear_up [] n k l h = tt
linear_up (t ∷ ts) n k l h = (let j = h.0 in omega arith, linear_up ts n k l h.1)

linear_push : (ts : List (VarId × Frac)) (n : ℕ) (t : VarId × Frac) → LinearWithin n ts → t.0.at < n → LinearWithin n (ts ++ t ∷ [])
linear_push [] n t h l = (l, tt)
linear_push (u ∷ ts) n t h l = (h.0, linear_push ts n t h.1 l)

pub linear_more : (ts : List (VarId × Frac)) (n k i : ℕ) (t : VarId × Frac) → i < length ts → t ≡ get_or ts i t → n ≤ k → t.0.at < k → LinearWithin n (take i ts) → LinearWithin k (take (i + 1) ts)
linear_more ts n k i t l is le below h =
    subst (λ ys. LinearWithin k ys) (ap (λ y. take i ts ++ y ∷ []) is ∙ sym (take_more ts i t l)) (linear_push (take i ts) k t (linear_up (take i ts) n k le h) below)

pub linear_done : (ts : List (VarId × Frac)) (n i : ℕ) → length ts ≤ i → LinearWithin n (take i ts) → LinearWithin n ts
linear_done ts n i l h = subst (λ ys. LinearWithin n ys) (take_all i ts l) h

pub square_up : (ts : List (VarId × VarId × Frac)) (n k : ℕ) → n ≤ k → SquareWithin n ts → SquareWithin k ts
square_up [] n k l h = tt
square_up (t ∷ ts) n k l h = (let j = h.0 in omega arith, let j = h.1 in omega arith, square_up ts n k l h.2)

square_push : (ts : List (VarId × VarId × Frac)) (n : ℕ) (t : VarId × VarId × Frac) → SquareWithin n ts → t.0.at < n → t.1.at < n → SquareWithin n (ts ++ t ∷ [])
square_push [] n t h l m = (l, m, tt)
square_push (u ∷ ts) n t h l m = (h.0, h.1, square_push ts n t h.2 l m)

pub square_more : (ts : List (VarId × VarId × Frac)) (n k i : ℕ) (t : VarId × VarId × Frac) → i < length ts → t ≡ get_or ts i t → n ≤ k → t.0.at < k → t.1.at < k → SquareWithin n (take i ts) → SquareWithin k (take (i + 1) ts)
square_more ts n k i t l is le below beneath h =
    subst (λ ys. SquareWithin k ys) (ap (λ y. take i ts ++ y ∷ []) is ∙ sym (take_more ts i t l)) (square_push (take i ts) k t (square_up (take i ts) n k le h) below beneath)

pub square_done : (ts : List (VarId × VarId × Frac)) (n i : ℕ) → length ts ≤ i → SquareWithin n (take i ts) → SquareWithin n ts
square_done ts n i l h = subst (λ ys. SquareWithin n ys) (take_all i ts l) h

pub is_within : (q : Quad) (n r s : ℕ) (ls : List (VarId × Frac)) (ss : List (VarId × VarId × Frac)) → ls ≡ q.linear → ss ≡ q.square → LinearWithin r ls → SquareWithin s ss → r ≤ s → s ≤ n → IsWithin n q
is_within q n r s ls ss e f h k l m = record {
  linear = linear_up q.linear r n (omega arith) (subst (λ ts. LinearWithin r ts) e h);
  square = square_up q.square s n m (subst (λ ts. SquareWithin s ts) f k);
}

pub ruleset reaching = (linear_more, linear_done, square_more, square_done)

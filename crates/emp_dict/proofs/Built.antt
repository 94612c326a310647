-- Lists that are built one value at a time.
use Rattle.std.proofs.Common.{◌≡◌, ℕ, zero, suc, ◌+◌, ◌<◌, ◌≤◌, List, [], ◌∷◌, ◌++◌, drop, get_or, length, map, replicate, arith, refl, ap, sym, ◌∙◌, append_assoc, add-zero}
use Rattle.std.proofs.lemmas.List.{drop_more, drop_all, append-nil, replicate_more}
use Rattle.emp_line.specs.declared.line.Line.{Line}
use Rattle.emp_rows.specs.declared.affine.Affine.{Affine}
use Rattle.emp_dict.specs.declared.label.Label.{Label}
use Rattle.emp_dict.specs.declared.label.Label.TheVariants.{Base, Quantity}
use Rattle.emp_dict.specs.declared.label.Mark.{Mark}
use Rattle.emp_dict.specs.declared.label.Mark.TheVariants.{Unasked}
use Rattle.emp_dict.specs.Dictionary.{bases_from, quantities_from, line_of}

-- ---- labels and marks
bases_last : (at n : ℕ) → bases_from at (suc n) ≡ bases_from at n ++ Base (at + n) ∷ []
bases_last at zero = rw (add-zero at) refl
bases_last at (suc n) = ap (λ ls. Base at ∷ ls) (bases_last (at + 1) n ∙ ap (λ k. bases_from (at + 1) n ++ Base k ∷ []) (let e : at + 1 + n ≡ at + suc n = omega arith in e))

pub bases_more : (out : List Label) (n : ℕ) → out ≡ bases_from 1 n → out ++ Base (n + 1) ∷ [] ≡ bases_from 1 (n + 1)
bases_more out n e =
    let p : n + 1 ≡ 1 + n = omega arith in
    let q : suc n ≡ n + 1 = omega arith in
    ap (λ ls. ls ++ Base (n + 1) ∷ []) e ∙ (ap (λ k. bases_from 1 n ++ Base k ∷ []) p ∙ (sym (bases_last 1 n) ∙ ap (bases_from 1) q))

quantities_last : (at n : ℕ) → quantities_from at (suc n) ≡ quantities_from at n ++ Quantity (at + n) ∷ []
quantities_last at zero = rw (add-zero at) refl
quantities_last at (suc n) = ap (λ ls. Quantity at ∷ ls) (quantities_last (at + 1) n ∙ ap (λ k. quantities_from (at + 1) n ++ Quantity k ∷ []) (let e : at + 1 + n ≡ at + suc n = omega arith in e))

pub quantities_more : (out : List Label) (n : ℕ) → out ≡ quantities_from 1 n → out ++ Quantity (n + 1) ∷ [] ≡ quantities_from 1 (n + 1)
quantities_more out n e =
    let p : n + 1 ≡ 1 + n = omega arith in
    let q : suc n ≡ n + 1 = omega arith in
    ap (λ ls. ls ++ Quantity (n + 1) ∷ []) e ∙ (ap (λ k. quantities_from 1 n ++ Quantity k ∷ []) p ∙ (sym (quantities_last 1 n) ∙ ap (quantities_from 1) q))

pub unasked_more : (out : List Mark) (n : ℕ) → out ≡ replicate n Unasked → out ++ Unasked ∷ [] ≡ replicate (n + 1) Unasked
unasked_more out n e = ap (λ ls. ls ++ Unasked ∷ []) e ∙ replicate_more n Unasked

pub ruleset counting = (bases_more, quantities_more, unasked_more)

-- ---- lines
pub lines_more : (rows : List Affine) (out : List Line) (i : ℕ) (x : Affine) (l : Line) → out ++ map line_of (drop i rows) ≡ map line_of rows → i < length rows → x ≡ get_or rows i x → l ≡ line_of x → (out ++ l ∷ []) ++ map line_of (drop (i + 1) rows) ≡ map line_of rows
lines_more rows out i x l e h k q =
    append_assoc out (l ∷ []) (map line_of (drop (i + 1) rows)) ∙ (ap (λ y. out ++ y ∷ map line_of (drop (i + 1) rows)) (q ∙ ap line_of k) ∙ (ap (λ ls. out ++ map line_of ls) (sym (drop_more rows i x h)) ∙ e))

pub lines_all : (rows : List Affine) (out : List Line) (i : ℕ) → out ++ map line_of (drop i rows) ≡ map line_of rows → length rows ≤ i → out ≡ map line_of rows
lines_all rows out i e h = sym (append-nil out) ∙ (ap (λ ls. out ++ map line_of ls) (sym (drop_all i rows h)) ∙ e)

pub ruleset lining = (lines_more, lines_all)

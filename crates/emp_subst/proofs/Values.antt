-- What a fold over fractions gives is the value of the polynomial, at each point that they stand for.
use Rattle.std.proofs.Common.{◌≡◌, ◌⊎◌, inl, inr, ℕ, zero, suc, ◌+◌, ◌<◌, ◌≤◌, max, ℤ, pos, ◌*ℤ◌, List, [], ◌∷◌, ◌++◌, length, length-append, arith, refl, sym, ap, ap₂, subst, subst₂, ◌∙◌}
use Rattle.std.specs.Prelude.{slice_index_or}
use Rattle.std.proofs.lemmas.Bool.{cases_lt}
use Rattle.std.proofs.lemmas.List.{get_or_append_left}
use Rattle.std.proofs.Math.Seq.{get_or-append_seam}
use lib.IntN.{zero-*ℤ}
use Rattle.emp_algebra.specs.Vector.{cell}
use Rattle.emp_num.specs.Ratio.{ratio, plus, times, SameRatio}
use Rattle.emp_num.specs.Point.{Point, coordinate, StandsFor}
use Rattle.emp_num.specs.Whole.{whole}
use Rattle.emp_num.specs.declared.frac.Frac.{Frac}
use Rattle.emp_num.proofs.Standing.{stands_at, stands_from}
use Rattle.emp_ast.specs.declared.tree.VarId.{VarId}
use Rattle.emp_form.specs.Calls.{Gives}
use Rattle.emp_poly.specs.Quads.{as_ratio, linear_value, square_value, quad_value}
use Rattle.emp_poly.specs.Written.{written_value, LinearWithin, SquareWithin, IsWithin}
use Rattle.emp_poly.specs.declared.quad.Quad.{Quad}
use Rattle.emp_poly.proofs.Writing.{written_means}
use Rattle.emp_subst.proofs.Folding.{entry_pad, written_same, linear_up, square_up}

-- ---- a point with one more coordinate 0
abbrev longer : Point → Point
longer p = record { den = p.den; nums = p.nums ++ pos 0 ∷ []; positive = p.positive }

cell_pad : (xs : List ℤ) (k : ℕ) → cell (xs ++ pos 0 ∷ []) k ≡ cell xs k
cell_pad [] zero = refl
cell_pad [] (suc k) = refl
cell_pad (x ∷ xs) zero = refl
cell_pad (x ∷ xs) (suc k) = cell_pad xs k

longer_stands : (xs : List Frac) (p : Point) → StandsFor xs p → StandsFor (xs ++ whole 0 ∷ []) (longer p)
longer_stands xs p h = stands_from (xs ++ whole 0 ∷ []) (longer p) count same
  where
    count : length (p.nums ++ pos 0 ∷ []) ≡ length (xs ++ whole 0 ∷ [])
    count = let c = h.count in omega (arith, length-append p.nums (pos 0 ∷ []), length-append xs (whole 0 ∷ []))

    at_end : (k : ℕ) (f : Frac) → length xs ≤ k → k < length xs + 1 → slice_index_or (xs ++ whole 0 ∷ []) k f ≡ whole 0
    at_end k f l m = let e : k ≡ length xs = omega arith in ap (λ n. slice_index_or (xs ++ whole 0 ∷ []) n f) e ∙ get_or-append_seam xs (whole 0) [] f

    past : (ys : List ℤ) (k : ℕ) → length ys ≤ k → cell ys k ≡ pos 0
    past [] k l = refl
    past (y ∷ ys) zero l = absurd (omega arith)
    past (y ∷ ys) (suc k) l = past ys k (omega arith)

    same : (k : ℕ) (f : Frac) → k < length (xs ++ whole 0 ∷ []) → (slice_index_or (xs ++ whole 0 ∷ []) k f).num *ℤ p.den ≡ cell (p.nums ++ pos 0 ∷ []) k *ℤ (slice_index_or (xs ++ whole 0 ∷ []) k f).den
    same k f l = go (cases_lt k (length xs))
      where
        go : (k < length xs) ⊎ (length xs ≤ k) → (slice_index_or (xs ++ whole 0 ∷ []) k f).num *ℤ p.den ≡ cell (p.nums ++ pos 0 ∷ []) k *ℤ (slice_index_or (xs ++ whole 0 ∷ []) k f).den
        go (inl below) =
            subst₂ (λ (x : Frac) z. x.num *ℤ p.den ≡ z *ℤ x.den) (sym (get_or_append_left xs (whole 0 ∷ []) f k below)) (sym (cell_pad p.nums k)) (stands_at xs p h k f below)
        go (inr above) =
            let c = h.count in
            subst₂ (λ (x : Frac) z. x.num *ℤ p.den ≡ z *ℤ x.den) (sym (at_end k f above (let n = length-append xs (whole 0 ∷ []) in omega (arith, n, l)))) (sym (cell_pad p.nums k ∙ past p.nums k (omega arith))) (zero-*ℤ p.den ∙ sym (zero-*ℤ (pos 1)))

linear_longer : (p : Point) (ts : List (VarId × Frac)) → linear_value (longer p) ts ≡ linear_value p ts
linear_longer p [] = refl
linear_longer p (t ∷ ts) = ap₂ (λ z v. plus (times (as_ratio t.1) (ratio z p.den)) v) (cell_pad p.nums t.0.at) (linear_longer p ts)

square_longer : (p : Point) (ts : List (VarId × VarId × Frac)) → square_value (longer p) ts ≡ square_value p ts
square_longer p [] = refl
square_longer p (t ∷ ts) =
    ap₂ (λ z v. plus (times (as_ratio t.2) (times (ratio z p.den) (coordinate (longer p) t.1.at))) v) (cell_pad p.nums t.0.at) (square_longer p ts)
    ∙ ap (λ z. plus (times (as_ratio t.2) (times (coordinate p t.0.at) (ratio z p.den))) (square_value p ts)) (cell_pad p.nums t.1.at)

quad_longer : (p : Point) (q : Quad) → quad_value (longer p) q ≡ quad_value p q
quad_longer p q = ap₂ (λ l s. plus (as_ratio q.constant) (plus l s)) (linear_longer p q.linear) (square_longer p q.square)

-- ---- as many as the polynomial reaches
linear_reach : List (VarId × Frac) → ℕ
linear_reach [] = 0
linear_reach (t ∷ ts) = max (t.0.at + 1) (linear_reach ts)

square_reach : List (VarId × VarId × Frac) → ℕ
square_reach [] = 0
square_reach (t ∷ ts) = max (max (t.0.at + 1) (t.1.at + 1)) (square_reach ts)

reaches_linear : (ts : List (VarId × Frac)) → LinearWithin (linear_reach ts) ts
unfolding linear_reach
reaches_linear [] = tt
reaches_linear (t ∷ ts) = (omega arith, linear_up ts (linear_reach ts) (max (t.0.at + 1) (linear_reach ts)) (omega arith) (reaches_linear ts))

reaches_square : (ts : List (VarId × VarId × Frac)) → SquareWithin (square_reach ts) ts
unfolding square_reach
reaches_square [] = tt
reaches_square (t ∷ ts) = (omega arith, omega arith, square_up ts (square_reach ts) (max (max (t.0.at + 1) (t.1.at + 1)) (square_reach ts)) (omega arith) (reaches_square ts))

reaches : (q : Quad) (n : ℕ) → linear_reach q.linear ≤ n → square_reach q.square ≤ n → IsWithin n q
reaches q n l s = record { linear = linear_up q.linear (linear_reach q.linear) n l (reaches_linear q.linear); square = square_up q.square (square_reach q.square) n s (reaches_square q.square) }

-- so many zeros more
means_with : (n : ℕ) (q : Quad) (xs : List Frac) (p : Point) → StandsFor xs p → IsWithin (length xs + n) q → (r : Frac) → Gives (written_value q xs) r → SameRatio (as_ratio r) (quad_value p q)
means_with zero q xs p h w r g = let e : length xs + 0 ≡ length xs = omega arith in written_means xs p h q (subst (λ k. IsWithin k q) e w) r g
means_with (suc n) q xs p h w r g =
    let e : length xs + suc n ≡ length (xs ++ whole 0 ∷ []) + n = omega (arith, length-append xs (whole 0 ∷ [])) in
    subst (λ v. SameRatio (as_ratio r) v) (quad_longer p q)
    (means_with n q (xs ++ whole 0 ∷ []) (longer p) (longer_stands xs p h) (subst (λ k. IsWithin k q) e w) r (subst (λ f. Gives f r) (written_same q xs (xs ++ whole 0 ∷ []) (λ k. sym (entry_pad xs (whole 0 ∷ []) k refl))) g))

pub fold_means : (q : Quad) (xs : List Frac) (p : Point) → StandsFor xs p → (r : Frac) → Gives (written_value q xs) r → SameRatio (as_ratio r) (quad_value p q)
fold_means q xs p h r g =
    let n = max (linear_reach q.linear) (square_reach q.square) in
    means_with n q xs p h (reaches q (length xs + n) (omega arith) (omega arith)) r g

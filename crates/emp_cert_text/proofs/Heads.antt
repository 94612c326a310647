-- Lines by the word that they begin with.
use Rattle.std.proofs.Common.{◌≡◌, ◌⊎◌, inl, inr, ℕ, zero, suc, ◌^◌, ◌<◌, ◌≤◌, ℤ, pos, ◌<ℤ◌, List, [], ◌∷◌, ◌++◌, map, length, drop, codes, arith, refl, sym, ap, subst, ◌∙◌, append_assoc, All}
use Rattle.std.specs.Prelude.{Ok, Err}
use Rattle.std.specs.Fmt.{signed_decimal}
use Rattle.std.proofs.lemmas.Int.{ints, to_z-of_z}
use Rattle.std.proofs.lemmas.List.{append_cancel_left}
use Rattle.std.proofs.lemmas.List.Elements.{All-nil, All-cons, All-head, All-tail}
use Rattle.emp_algebra.specs.Vector.{cell}
use Rattle.emp_num.specs.Exact.{IsNarrow}
use Rattle.emp_numeral.specs.FracText.{fraction_text}
use Rattle.emp_numeral.specs.Numeral.{first}
use Rattle.emp_num.specs.declared.frac.Frac.{Frac}
use Rattle.emp_rows.specs.Points.{IsNumber}
use Rattle.emp_cert.specs.Certs.{Counts}
use Rattle.emp_cert_text.specs.Text.{spaced, sizes_text, pair_text, point_text, ray_text}
use Rattle.emp_cert_text.specs.Words.{is_whole, IsFraction, first_word, after_word}
use Rattle.emp_cert_text.specs.Lines.{AreWords, IsWhole, LineFails, NumbersGive, FractionsGive, SizesRight, SizesFit, PairRight, PairFits, PointRight, PointFits, RayRight, RayFits}
use Rattle.emp_cert_text.specs.declared.lines.LineFault.{LineFault}
use Rattle.emp_cert_text.specs.declared.lines.LineFault.TheVariants.{Range, Syntax, NoMemory}
use Rattle.emp_cert_text.proofs.Numbers.{signed_is, signed_same, fraction_is}
use Rattle.emp_cert_text.proofs.Spaced.{plain_whole, first_plain, after_plain, Written, written_words, AnyFrac, all_fracs}

-- ---- values and their words
words_map : (P Q : List ℕ → Type 0) → ((w : List ℕ) → P w → Q w) → (n : ℕ) (t : List ℕ) → AreWords P n t → AreWords Q n t
words_map P Q f zero t h = h
words_map P Q f (suc n) t h = (h.0, h.1, h.2, f h.0 h.3, words_map P Q f n h.1 h.4)

whole_written : (w : List ℕ) → Written signed_decimal IsNarrow w → IsWhole w
whole_written w h = ap is_whole h.2 ∙ (signed_is h.0 h.1).0

fraction_written : (w : List ℕ) → Written fraction_text AnyFrac w → IsFraction w
fraction_written w h = subst (λ (x : List ℕ). IsFraction x) (sym h.2) (fraction_is h.0)

pub numbers_right : (n : ℕ) (t : List ℕ) (zs : List ℤ) → t ≡ spaced (map signed_decimal zs) ++ 10 ∷ [] → length zs ≡ n → All IsNarrow zs → AreWords IsWhole n t
numbers_right n t zs e l h = subst (λ (x : List ℕ). AreWords IsWhole n x) (sym e) (subst (λ (k : ℕ). AreWords IsWhole k (spaced (map signed_decimal zs) ++ 10 ∷ [])) l (words_map (Written signed_decimal IsNarrow) IsWhole whole_written (length zs) (spaced (map signed_decimal zs) ++ 10 ∷ []) (written_words signed_decimal IsNarrow zs h)))

pub fractions_right : (n : ℕ) (t : List ℕ) (fs : List Frac) → t ≡ spaced (map fraction_text fs) ++ 10 ∷ [] → length fs ≡ n → AreWords IsFraction n t
fractions_right n t fs e l = subst (λ (x : List ℕ). AreWords IsFraction n x) (sym e) (subst (λ (k : ℕ). AreWords IsFraction k (spaced (map fraction_text fs) ++ 10 ∷ [])) l (words_map (Written fraction_text AnyFrac) IsFraction fraction_written (length fs) (spaced (map fraction_text fs) ++ 10 ∷ []) (written_words fraction_text AnyFrac fs (all_fracs fs))))

pub rest_first : (ws : List (List ℕ)) → first (spaced ws ++ 10 ∷ []) ≤ 32
rest_first [] = omega arith
rest_first (w ∷ ws) = omega arith

pub numbers_same : (ys zs : List ℤ) → All IsNarrow ys → All IsNarrow zs → spaced (map signed_decimal ys) ++ 10 ∷ [] ≡ spaced (map signed_decimal zs) ++ 10 ∷ [] → ys ≡ zs
numbers_same [] [] h k e = refl
numbers_same [] (z ∷ zs) h k e = absurd (omega (arith, ap first e))
numbers_same (y ∷ ys) [] h k e = absurd (omega (arith, ap first e))
numbers_same (y ∷ ys) (z ∷ zs) h k e =
    let ny = All-head IsNarrow y ys h in
    let nz = All-head IsNarrow z zs k in
    let a : List ℕ = spaced (map signed_decimal ys) ++ 10 ∷ [] in
    let b : List ℕ = spaced (map signed_decimal zs) ++ 10 ∷ [] in
    let py = plain_whole (signed_decimal y) (signed_is y ny).0 in
    let pz = plain_whole (signed_decimal z) (signed_is z nz).0 in
    let s : signed_decimal y ++ a ≡ signed_decimal z ++ b = sym (append_assoc (signed_decimal y) (spaced (map signed_decimal ys)) (10 ∷ [])) ∙ (ap (drop 1) e ∙ append_assoc (signed_decimal z) (spaced (map signed_decimal zs)) (10 ∷ [])) in
    let w : signed_decimal y ≡ signed_decimal z = sym (first_plain (signed_decimal y) a py (rest_first (map signed_decimal ys))) ∙ (ap first_word s ∙ first_plain (signed_decimal z) b pz (rest_first (map signed_decimal zs))) in
    let r : a ≡ b = sym (after_plain (signed_decimal y) a py (rest_first (map signed_decimal ys))) ∙ (ap after_word s ∙ after_plain (signed_decimal z) b pz (rest_first (map signed_decimal zs))) in
    let hd : y ≡ z = signed_same y z ny nz w in
    let tl : ys ≡ zs = numbers_same ys zs (All-tail IsNarrow y ys h) (All-tail IsNarrow z zs k) r in
    cc

-- ---- counts
three_cells : (xs : List ℤ) → length xs ≡ 3 → xs ≡ cell xs 0 ∷ (cell xs 1 ∷ (cell xs 2 ∷ []))
three_cells [] e = absurd (omega arith)
three_cells (x ∷ []) e = absurd (omega arith)
three_cells (x ∷ y ∷ []) e = absurd (omega arith)
three_cells (x ∷ y ∷ z ∷ []) e = refl
three_cells (x ∷ y ∷ z ∷ u ∷ us) e = absurd (omega arith)

two_cells : (xs : List ℤ) → length xs ≡ 2 → xs ≡ cell xs 0 ∷ (cell xs 1 ∷ [])
two_cells [] e = absurd (omega arith)
two_cells (x ∷ []) e = absurd (omega arith)
two_cells (x ∷ y ∷ []) e = refl
two_cells (x ∷ y ∷ z ∷ us) e = absurd (omega arith)

pub one_cell : (xs : List ℤ) → length xs ≡ 1 → xs ≡ cell xs 0 ∷ []
one_cell [] e = absurd (omega arith)
one_cell (x ∷ []) e = refl
one_cell (x ∷ y ∷ us) e = absurd (omega arith)

pub as_three : (xs : List ℤ) (a b c : ℤ) → length xs ≡ 3 → cell xs 0 ≡ a → cell xs 1 ≡ b → cell xs 2 ≡ c → xs ≡ a ∷ (b ∷ (c ∷ []))
as_three xs a b c l e f g = let t = three_cells xs l in cc

pub as_two : (xs : List ℤ) (a b : ℤ) → length xs ≡ 2 → cell xs 0 ≡ a → cell xs 1 ≡ b → xs ≡ a ∷ (b ∷ [])
as_two xs a b l e f = let t = two_cells xs l in cc

pub as_one : (xs : List ℤ) (a : ℤ) → length xs ≡ 1 → cell xs 0 ≡ a → xs ≡ a ∷ []
as_one xs a l e = let t = one_cell xs l in cc

pub no_base : (xs : List ℤ) → ((n : ℕ) → 0 ≤ n → n ≤ 256 → cell xs 0 ≡ pos n → ⊥) → (b q p : ℕ) → Counts b q p → xs ≡ pos b ∷ (pos q ∷ (pos p ∷ [])) → ⊥
no_base xs h b q p c e = h b (omega arith) c.few_variables (ap (λ x. cell x 0) e)

pub no_quantities : (xs : List ℤ) → ((n : ℕ) → 0 ≤ n → n ≤ 512 → cell xs 1 ≡ pos n → ⊥) → (b q p : ℕ) → Counts b q p → xs ≡ pos b ∷ (pos q ∷ (pos p ∷ [])) → ⊥
no_quantities xs h b q p c e = h q (omega arith) c.few_quantities (ap (λ x. cell x 1) e)

pub no_pairs : (xs : List ℤ) → ((n : ℕ) → 0 ≤ n → n ≤ 256 → cell xs 2 ≡ pos n → ⊥) → (b q p : ℕ) → Counts b q p → xs ≡ pos b ∷ (pos q ∷ (pos p ∷ [])) → ⊥
no_pairs xs h b q p c e = h p (omega arith) c.few_pairs (ap (λ x. cell x 2) e)

pub no_first : (xs : List ℤ) (quantities : ℕ) → ((n : ℕ) → 1 ≤ n → n ≤ quantities → cell xs 0 ≡ pos n → ⊥) → (a b : ℕ) → IsNumber quantities a → IsNumber quantities b → xs ≡ pos a ∷ (pos b ∷ []) → ⊥
no_first xs quantities h a b i j e = h a (omega (arith, i.0)) i.1 (ap (λ x. cell x 0) e)

pub no_second : (xs : List ℤ) (quantities : ℕ) → ((n : ℕ) → 1 ≤ n → n ≤ quantities → cell xs 1 ≡ pos n → ⊥) → (a b : ℕ) → IsNumber quantities a → IsNumber quantities b → xs ≡ pos a ∷ (pos b ∷ []) → ⊥
no_second xs quantities h a b i j e = h b (omega (arith, j.0)) j.1 (ap (λ x. cell x 1) e)

pub outside : (z : ℤ) (low high : ℕ) → (z <ℤ pos low) ⊎ (pos high <ℤ z) → (n : ℕ) → low ≤ n → n ≤ high → z ≡ pos n → ⊥
outside z low high (inl h) n l m e = absurd (omega (arith, ints, h, l, e))
outside z low high (inr h) n l m e = absurd (omega (arith, ints, h, m, e))

pub ruleset counting = (to_z-of_z, as_three, as_two, as_one, no_base, no_quantities, no_pairs, no_first, no_second)

pub narrow_pos : (n : ℕ) → n < 2 ^ 126 → IsNarrow (pos n)
narrow_pos n l = omega (arith, ints, l)

pub narrow_three : (b q p : ℕ) → Counts b q p → All IsNarrow (pos b ∷ (pos q ∷ (pos p ∷ [])))
narrow_three b q p c =
    All-cons IsNarrow (pos b) (pos q ∷ (pos p ∷ [])) (narrow_pos b (omega (arith, c.few_variables)))
    (All-cons IsNarrow (pos q) (pos p ∷ []) (narrow_pos q (omega (arith, c.few_quantities)))
    (All-cons IsNarrow (pos p) [] (narrow_pos p (omega (arith, c.few_pairs))) (All-nil IsNarrow)))

-- ---- a line's faults from those of what follows its word
pub sizes_ok : (l t : List ℕ) (zs : List ℤ) (b q p : ℕ) → l ≡ codes "rows" ++ t → t ≡ spaced (map signed_decimal zs) ++ 10 ∷ [] → zs ≡ pos b ∷ (pos q ∷ (pos p ∷ [])) → l ≡ sizes_text b q p
sizes_ok l t zs b q p e f g = e ∙ ap (λ x. codes "rows" ++ x) (f ∙ ap (λ x. spaced (map signed_decimal x) ++ 10 ∷ []) g)

pub sizes_none : (l : List ℕ) → ((t : List ℕ) → l ≡ codes "rows" ++ t → ⊥) → SizesRight l → ⊥
sizes_none l h r = h r.0 r.1

pub sizes_fault : (l t : List ℕ) (e : LineFault) → l ≡ codes "rows" ++ t → NumbersGive t 3 (Err e) → LineFails (SizesRight l) (SizesFit l) e
sizes_fault l t Range f h = ((t, f, h.0), λ s. h.1 (pos s.0 ∷ (pos s.1 ∷ (pos s.2 ∷ [])), narrow_three s.0 s.1 s.2 s.3, append_cancel_left (codes "rows") t (spaced (map signed_decimal (pos s.0 ∷ (pos s.1 ∷ (pos s.2 ∷ [])))) ++ 10 ∷ []) (sym f ∙ s.4)))
sizes_fault l t Syntax f h = λ r. h (subst (λ (x : List ℕ). AreWords IsWhole 3 x) (append_cancel_left (codes "rows") r.0 t (sym r.1 ∙ f)) r.2)
sizes_fault l t NoMemory f h = tt

pub sizes_range : (l t : List ℕ) (zs : List ℤ) → l ≡ codes "rows" ++ t → NumbersGive t 3 (Ok zs) → ((b q p : ℕ) → Counts b q p → zs ≡ pos b ∷ (pos q ∷ (pos p ∷ [])) → ⊥) → LineFails (SizesRight l) (SizesFit l) Range
sizes_range l t zs f h n = ((t, f, numbers_right 3 t zs h.0 h.1 h.2), λ s. n s.0 s.1 s.2 s.3 (numbers_same zs (pos s.0 ∷ (pos s.1 ∷ (pos s.2 ∷ []))) h.2 (narrow_three s.0 s.1 s.2 s.3) (sym h.0 ∙ append_cancel_left (codes "rows") t (spaced (map signed_decimal (pos s.0 ∷ (pos s.1 ∷ (pos s.2 ∷ [])))) ++ 10 ∷ []) (sym f ∙ s.4))))

pub narrow_two : (a b n : ℕ) → n < 2 ^ 126 → IsNumber n a → IsNumber n b → All IsNarrow (pos a ∷ (pos b ∷ []))
narrow_two a b n l i j = All-cons IsNarrow (pos a) (pos b ∷ []) (narrow_pos a (omega (arith, i.1, l))) (All-cons IsNarrow (pos b) [] (narrow_pos b (omega (arith, j.1, l))) (All-nil IsNarrow))

pub pair_ok : (l t : List ℕ) (zs : List ℤ) (p : ℕ × ℕ) → l ≡ codes "pair" ++ t → t ≡ spaced (map signed_decimal zs) ++ 10 ∷ [] → zs ≡ pos p.0 ∷ (pos p.1 ∷ []) → l ≡ pair_text p
pair_ok l t zs p e f g = e ∙ ap (λ x. codes "pair" ++ x) (f ∙ ap (λ x. spaced (map signed_decimal x) ++ 10 ∷ []) g)

pub pair_none : (l : List ℕ) → ((t : List ℕ) → l ≡ codes "pair" ++ t → ⊥) → PairRight l → ⊥
pair_none l h r = h r.0 r.1

pub pair_fault : (n : ℕ) (l t : List ℕ) (e : LineFault) → n < 2 ^ 126 → l ≡ codes "pair" ++ t → NumbersGive t 2 (Err e) → LineFails (PairRight l) (PairFits n l) e
pair_fault n l t Range m f h = ((t, f, h.0), λ s. h.1 (pos s.0.0 ∷ (pos s.0.1 ∷ []), narrow_two s.0.0 s.0.1 n m s.1 s.2, append_cancel_left (codes "pair") t (spaced (map signed_decimal (pos s.0.0 ∷ (pos s.0.1 ∷ []))) ++ 10 ∷ []) (sym f ∙ s.3)))
pair_fault n l t Syntax m f h = λ r. h (subst (λ (x : List ℕ). AreWords IsWhole 2 x) (append_cancel_left (codes "pair") r.0 t (sym r.1 ∙ f)) r.2)
pair_fault n l t NoMemory m f h = tt

pub pair_range : (n : ℕ) (l t : List ℕ) (zs : List ℤ) → n < 2 ^ 126 → l ≡ codes "pair" ++ t → NumbersGive t 2 (Ok zs) → ((a b : ℕ) → IsNumber n a → IsNumber n b → zs ≡ pos a ∷ (pos b ∷ []) → ⊥) → LineFails (PairRight l) (PairFits n l) Range
pair_range n l t zs m f h k = ((t, f, numbers_right 2 t zs h.0 h.1 h.2), λ s. k s.0.0 s.0.1 s.1 s.2 (numbers_same zs (pos s.0.0 ∷ (pos s.0.1 ∷ [])) h.2 (narrow_two s.0.0 s.0.1 n m s.1 s.2) (sym h.0 ∙ append_cancel_left (codes "pair") t (spaced (map signed_decimal (pos s.0.0 ∷ (pos s.0.1 ∷ []))) ++ 10 ∷ []) (sym f ∙ s.3))))

pub point_ok : (l t : List ℕ) (n : ℕ) (fs : List Frac) → l ≡ codes "point" ++ t → FractionsGive t n (Ok fs) → l ≡ point_text fs
point_ok l t n fs e h = e ∙ ap (λ x. codes "point" ++ x) h.0

pub point_none : (n : ℕ) (l : List ℕ) → ((t : List ℕ) → l ≡ codes "point" ++ t → ⊥) → PointRight n l → ⊥
point_none n l h r = h r.0 r.1

pub point_fault : (n : ℕ) (l t : List ℕ) (e : LineFault) → l ≡ codes "point" ++ t → FractionsGive t n (Err e) → LineFails (PointRight n l) (PointFits n l) e
point_fault n l t Range f h = ((t, f, h.0), λ s. h.1 (s.0, append_cancel_left (codes "point") t (spaced (map fraction_text s.0) ++ 10 ∷ []) (sym f ∙ s.2)))
point_fault n l t Syntax f h = λ r. h (subst (λ (x : List ℕ). AreWords IsFraction n x) (append_cancel_left (codes "point") r.0 t (sym r.1 ∙ f)) r.2)
point_fault n l t NoMemory f h = tt

pub ray_ok : (l t : List ℕ) (n : ℕ) (fs : List Frac) → l ≡ codes "ray" ++ t → FractionsGive t n (Ok fs) → l ≡ ray_text fs
ray_ok l t n fs e h = e ∙ ap (λ x. codes "ray" ++ x) h.0

pub ray_none : (n : ℕ) (l : List ℕ) → ((t : List ℕ) → l ≡ codes "ray" ++ t → ⊥) → RayRight n l → ⊥
ray_none n l h r = h r.0 r.1

pub ray_fault : (n : ℕ) (l t : List ℕ) (e : LineFault) → l ≡ codes "ray" ++ t → FractionsGive t n (Err e) → LineFails (RayRight n l) (RayFits n l) e
ray_fault n l t Range f h = ((t, f, h.0), λ s. h.1 (s.0, append_cancel_left (codes "ray") t (spaced (map fraction_text s.0) ++ 10 ∷ []) (sym f ∙ s.2)))
ray_fault n l t Syntax f h = λ r. h (subst (λ (x : List ℕ). AreWords IsFraction n x) (append_cancel_left (codes "ray") r.0 t (sym r.1 ∙ f)) r.2)
ray_fault n l t NoMemory f h = tt

pub ruleset heading = (to_z-of_z, sizes_ok, sizes_none, sizes_fault, sizes_range, pair_ok, pair_none, pair_fault, pair_range, point_ok, point_none, point_fault, ray_ok, ray_none, ray_fault)

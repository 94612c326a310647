-- Certificates with one text are one certificate.
use Rattle.std.proofs.Common.{◌≡◌, ℕ, zero, suc, ◌+◌, ◌^◌, ◌<◌, ◌≤◌, Bool, true, false, cond, ℤ, pos, negsuc, List, [], ◌∷◌, ◌++◌, map, length, drop, decimal, codes, Option, Some, None, Result, Ok, Err, IfOk, IfErr, arith, refl, sym, ap, subst, ◌∙◌, append_assoc, All}
use Rattle.std.specs.Fmt.{signed_decimal}
use Rattle.std.specs.Io.BufRead.{take_through, drop_through}
use Rattle.std.proofs.lemmas.Bool.{true≢false, false≢true}
use Rattle.std.proofs.lemmas.Int.{ints}
use Rattle.std.proofs.lemmas.List.{append_cancel_left}
use Rattle.std.proofs.lemmas.List.Elements.{All-nil, All-cons, All-head, All-tail}
use Rattle.emp_num.specs.Exact.{IsNarrow}
use Rattle.emp_numeral.specs.FracText.{fraction_text}
use Rattle.emp_numeral.specs.Numeral.{first}
use Rattle.emp_num.specs.declared.frac.Frac.{Frac}
use Rattle.emp_num.proofs.Same.{frac_eq}
use Rattle.emp_rows.specs.Points.{IsNumber}
use Rattle.emp_algebra.specs.Vector.{is_zero}
use Rattle.emp_cert.specs.Certs.{NodeFits, LinksFit, VerdictFits}
use Rattle.emp_cert.specs.Nodes.{AreTrees, AreTrees-prop}
use Rattle.emp_cert.specs.declared.tree.Tree.{Tree}
use Rattle.emp_cert.specs.declared.cert.Cert.{Cert}
use Rattle.emp_cert.specs.declared.cert.Verdict.{Verdict}
use Rattle.emp_cert.specs.declared.cert.Verdict.TheVariants.{Point, Missing, Best, Unbounded}
use Rattle.emp_cert.specs.declared.tree.Node.{Node}
use Rattle.emp_cert.specs.declared.tree.Node.TheVariants.{Branch, Farkas, Bound}
use Rattle.emp_cert_text.specs.Text.{spaced, line, sparse, factors, node_text, nodes_text, point_text, ray_text, pair_text, pairs_text, counts_text, links_text, is_second, version_text, verdict_text, cert_text}
use Rattle.emp_cert_text.specs.Reading.{IsSame, IsRead, ReadFails}
use Rattle.emp_cert_text.specs.Writing.{longest}
use Rattle.emp_cert_text.specs.declared.read.CertFault.{CertFault}
use Rattle.emp_cert_text.specs.Words.{value, lacks, first_word, after_word}
use Rattle.emp_cert_text.proofs.Numbers.{value_decimal, signed_is, signed_same, signed_lacks, parted, lacks_not, fraction_is, fraction_parts, FractionParts}
use Rattle.emp_cert_text.proofs.Numbers.FractionParts.{whole_part, quotient_part}
use Rattle.emp_cert_text.proofs.Spaced.{are_plain, plain_append, plain_whole, plain_fraction, first_plain, after_plain}
use Rattle.emp_cert_text.proofs.Heads.{numbers_same, rest_first, narrow_two}
use Rattle.emp_cert_text.proofs.Whole.{IsLine, node_line, line_is, count_lacks, fractions_lack, version_line, same_version, sizes_same, cert_fails}

-- ---- words
abbrev pub ArePlain : List (List ℕ) → Type 0
ArePlain [] = Unit {0}
ArePlain (w ∷ ws) = (are_plain w ≡ true) × ArePlain ws

pub words_same : (vs ws : List (List ℕ)) → ArePlain vs → ArePlain ws → spaced vs ++ 10 ∷ [] ≡ spaced ws ++ 10 ∷ [] → vs ≡ ws
words_same [] [] h k e = refl
words_same [] (w ∷ ws) h k e = absurd (omega (arith, ap first e))
words_same (v ∷ vs) [] h k e = absurd (omega (arith, ap first e))
words_same (v ∷ vs) (w ∷ ws) h k e =
    let a : List ℕ = spaced vs ++ 10 ∷ [] in
    let b : List ℕ = spaced ws ++ 10 ∷ [] in
    let s : v ++ a ≡ w ++ b = sym (append_assoc v (spaced vs) (10 ∷ [])) ∙ (ap (drop 1) e ∙ append_assoc w (spaced ws) (10 ∷ [])) in
    let one : v ≡ w = sym (first_plain v a h.0 (rest_first vs)) ∙ (ap first_word s ∙ first_plain w b k.0 (rest_first ws)) in
    let rest : a ≡ b = sym (after_plain v a h.0 (rest_first vs)) ∙ (ap after_word s ∙ after_plain w b k.0 (rest_first ws)) in
    let tl : vs ≡ ws = words_same vs ws h.1 k.1 rest in
    cc

-- ---- fractions
decimal_same : (m n : ℕ) → m < 2 ^ 126 → n < 2 ^ 126 → decimal m ≡ decimal n → m ≡ n
decimal_same m n l k e = sym (value_decimal m l) ∙ (ap value e ∙ value_decimal n k)

slash_lacks : (f : Frac) → lacks 47 (signed_decimal f.num) ≡ true
slash_lacks f = signed_lacks 47 f.num refl (λ x. absurd (omega (arith, x))) f.num_narrow

fraction_same : (f g : Frac) → fraction_text f ≡ fraction_text g → f ≡ g
fraction_same f g e = go (fraction_parts f) (fraction_parts g)
  where
    go : FractionParts f → FractionParts g → f ≡ g
    go (whole_part a d) (whole_part b c) = frac_eq f g (signed_same f.num g.num f.num_narrow g.num_narrow (sym a ∙ (e ∙ b))) (d ∙ sym c)
    go (whole_part a d) (quotient_part k b c l m) = absurd (lacks_not 47 (signed_decimal g.num) (decimal k) (ap (lacks 47) (sym b ∙ (sym e ∙ a)) ∙ slash_lacks f))
    go (quotient_part k b c l m) (whole_part a d) = absurd (lacks_not 47 (signed_decimal f.num) (decimal k) (ap (lacks 47) (sym b ∙ (e ∙ a)) ∙ slash_lacks g))
    go (quotient_part k b c l m) (quotient_part j a d i n) =
        let p = parted 47 (signed_decimal f.num) (decimal k) (signed_decimal g.num) (decimal j) (slash_lacks f) (slash_lacks g) (sym b ∙ (e ∙ a)) in
        frac_eq f g (signed_same f.num g.num f.num_narrow g.num_narrow p.0) (c ∙ (ap pos (decimal_same k j m n p.1) ∙ sym d))

fractions_plain : (fs : List Frac) → ArePlain (map fraction_text fs)
fractions_plain [] = tt
fractions_plain (f ∷ fs) = (plain_fraction (fraction_text f) (fraction_is f), fractions_plain fs)

texts_same : (fs gs : List Frac) → map fraction_text fs ≡ map fraction_text gs → fs ≡ gs
texts_same [] [] e = refl
texts_same [] (g ∷ gs) e = cc
texts_same (f ∷ fs) [] e = cc
texts_same (f ∷ fs) (g ∷ gs) e =
    let a : fraction_text f ≡ fraction_text g = cc in
    let b : map fraction_text fs ≡ map fraction_text gs = cc in
    let hd : f ≡ g = fraction_same f g a in
    let tl : fs ≡ gs = texts_same fs gs b in
    ap (λ x. x ∷ fs) hd ∙ ap (λ x. g ∷ x) tl

pub fractions_same : (fs gs : List Frac) → spaced (map fraction_text fs) ++ 10 ∷ [] ≡ spaced (map fraction_text gs) ++ 10 ∷ [] → fs ≡ gs
fractions_same fs gs e = texts_same fs gs (words_same (map fraction_text fs) (map fraction_text gs) (fractions_plain fs) (fractions_plain gs) e)

-- ---- factors
colon_lacks : (n : ℕ) → n < 2 ^ 126 → lacks 58 (decimal n) ≡ true
colon_lacks n l = signed_lacks 58 (pos n) refl (λ x. absurd (omega (arith, x))) (omega (arith, ints, l))

-- the first of the words from number j on has a number of at least j
not_before : (j k : ℕ) (zs : List ℤ) (m : List ℕ) (ws : List (List ℕ)) → k < j → j + length zs < 2 ^ 126 → sparse j zs ≡ (decimal k ++ (58 ∷ m)) ∷ ws → ⊥
not_before j k [] m ws l s e = let f : ◌≡◌ {A = List (List ℕ)} [] ((decimal k ++ (58 ∷ m)) ∷ ws) = e in cc
not_before j k (z ∷ zs) m ws l s e = go (is_zero z) e (not_before (j + 1) k zs m ws (omega arith) (omega arith))
  where
    go : (b : Bool) → cond b (sparse (j + 1) zs) ((decimal j ++ (58 ∷ signed_decimal z)) ∷ sparse (j + 1) zs) ≡ (decimal k ++ (58 ∷ m)) ∷ ws → (sparse (j + 1) zs ≡ (decimal k ++ (58 ∷ m)) ∷ ws → ⊥) → ⊥
    go true f r = r f
    go false f r =
        let w : decimal j ++ (58 ∷ signed_decimal z) ≡ decimal k ++ (58 ∷ m) = cc in
        let p = parted 58 (decimal j) (signed_decimal z) (decimal k) m (colon_lacks j (omega arith)) (colon_lacks k (omega arith)) w in
        let n : j ≡ k = decimal_same j k (omega arith) (omega arith) p.0 in
        absurd (omega arith)

sparse_same : (k : ℕ) (ys zs : List ℤ) → length ys ≡ length zs → k + length ys < 2 ^ 126 → All IsNarrow ys → All IsNarrow zs → sparse k ys ≡ sparse k zs → ys ≡ zs
sparse_same k [] [] l s h i e = refl
sparse_same k [] (z ∷ zs) l s h i e = absurd (omega arith)
sparse_same k (y ∷ ys) [] l s h i e = absurd (omega arith)
sparse_same k (y ∷ ys) (z ∷ zs) l s h i e = go (is_zero y) (is_zero z) refl refl e (sparse_same (k + 1) ys zs (omega arith) (omega arith) (All-tail IsNarrow y ys h) (All-tail IsNarrow z zs i))
  where
    zero_is : (x : ℤ) → is_zero x ≡ true → x ≡ pos 0
    zero_is (pos zero) f = refl
    zero_is (pos (suc n)) f = absurd (false≢true f)
    zero_is (negsuc n) f = absurd (false≢true f)

    go : (b c : Bool) → is_zero y ≡ b → is_zero z ≡ c → cond b (sparse (k + 1) ys) ((decimal k ++ (58 ∷ signed_decimal y)) ∷ sparse (k + 1) ys) ≡ cond c (sparse (k + 1) zs) ((decimal k ++ (58 ∷ signed_decimal z)) ∷ sparse (k + 1) zs) → (sparse (k + 1) ys ≡ sparse (k + 1) zs → ys ≡ zs) → y ∷ ys ≡ z ∷ zs
    go true true p q f r = let a : y ≡ z = zero_is y p ∙ sym (zero_is z q) in let b : ys ≡ zs = r f in cc
    go true false p q f r = absurd (not_before (k + 1) k ys (signed_decimal z) (sparse (k + 1) zs) (omega arith) (omega arith) f)
    go false true p q f r = absurd (not_before (k + 1) k zs (signed_decimal y) (sparse (k + 1) ys) (omega arith) (omega arith) (sym f))
    go false false p q f r =
        let w : decimal k ++ (58 ∷ signed_decimal y) ≡ decimal k ++ (58 ∷ signed_decimal z) = cc in
        let t : sparse (k + 1) ys ≡ sparse (k + 1) zs = cc in
        let p : 58 ∷ signed_decimal y ≡ 58 ∷ signed_decimal z = append_cancel_left (decimal k) (58 ∷ signed_decimal y) (58 ∷ signed_decimal z) w in
        let a : y ≡ z = signed_same y z (All-head IsNarrow y ys h) (All-head IsNarrow z zs i) (ap (drop 1) p) in
        let b : ys ≡ zs = r t in
        cc

sparse_plain : (k : ℕ) (zs : List ℤ) → k + length zs < 2 ^ 126 → All IsNarrow zs → ArePlain (sparse k zs)
sparse_plain k [] l h = tt
sparse_plain k (z ∷ zs) l h = go (is_zero z) (sparse_plain (k + 1) zs (omega arith) (All-tail IsNarrow z zs h))
  where
    go : (b : Bool) → ArePlain (sparse (k + 1) zs) → ArePlain (cond b (sparse (k + 1) zs) ((decimal k ++ (58 ∷ signed_decimal z)) ∷ sparse (k + 1) zs))
    go true r = r
    go false r = (plain_append (decimal k) (58 ∷ signed_decimal z) (plain_whole (decimal k) (signed_is (pos k) (omega (arith, ints))).0) (plain_whole (signed_decimal z) (signed_is z (All-head IsNarrow z zs h)).0), r)

factors_same : (second : Bool) (ys zs : List ℤ) → length ys ≡ length zs → length ys ≤ 512 → All IsNarrow ys → All IsNarrow zs → spaced (factors second ys) ++ 10 ∷ [] ≡ spaced (factors second zs) ++ 10 ∷ [] → ys ≡ zs
factors_same false ys zs l m h i e = numbers_same ys zs h i e
factors_same true ys zs l m h i e = sparse_same 1 ys zs l (omega arith) h i (words_same (sparse 1 ys) (sparse 1 zs) (sparse_plain 1 ys (omega arith) h) (sparse_plain 1 zs (omega arith) i) e)

-- ---- lines
pub lines_same : (l m r s : List ℕ) → IsLine l → IsLine m → l ++ r ≡ m ++ s → (l ≡ m) × (r ≡ s)
lines_same l m r s i j e = (sym (i.first_is r) ∙ (ap (take_through 10) e ∙ j.first_is s), sym (i.rest_is r) ∙ (ap (drop_through 10) e ∙ j.rest_is s))

weight_same : (w v : ℤ) (us vs : List (List ℕ)) → IsNarrow w → IsNarrow v → spaced (signed_decimal w ∷ us) ++ 10 ∷ [] ≡ spaced (signed_decimal v ∷ vs) ++ 10 ∷ [] → (w ≡ v) × (spaced us ++ 10 ∷ [] ≡ spaced vs ++ 10 ∷ [])
weight_same w v us vs n m e =
    let a : List ℕ = spaced us ++ 10 ∷ [] in
    let b : List ℕ = spaced vs ++ 10 ∷ [] in
    let s : signed_decimal w ++ a ≡ signed_decimal v ++ b = sym (append_assoc (signed_decimal w) (spaced us) (10 ∷ [])) ∙ (ap (drop 1) e ∙ append_assoc (signed_decimal v) (spaced vs) (10 ∷ [])) in
    let p = plain_whole (signed_decimal w) (signed_is w n).0 in
    let q = plain_whole (signed_decimal v) (signed_is v m).0 in (
      signed_same w v n m (sym (first_plain (signed_decimal w) a p (rest_first us)) ∙ (ap first_word s ∙ first_plain (signed_decimal v) b q (rest_first vs))),
      sym (after_plain (signed_decimal w) a p (rest_first us)) ∙ (ap after_word s ∙ after_plain (signed_decimal v) b q (rest_first vs)),
    )

node_same : (second : Bool) (p q : ℕ) (x y : Node) → p ≤ 256 → q ≤ 512 → NodeFits p q x → NodeFits p q y → node_text second x ≡ node_text second y → x ≡ y
node_same second p q (Branch j) (Branch k) l m f g e = ap Branch (let z = numbers_same (pos j ∷ []) (pos k ∷ []) (All-cons IsNarrow (pos j) [] (omega (arith, ints, f.1)) (All-nil IsNarrow)) (All-cons IsNarrow (pos k) [] (omega (arith, ints, g.1)) (All-nil IsNarrow)) (append_cancel_left (codes "branch") (spaced (decimal j ∷ []) ++ 10 ∷ []) (spaced (decimal k ∷ []) ++ 10 ∷ []) e) in cc)
node_same second p q (Branch j) (Farkas fs) l m f g e = absurd (omega (arith, ap first e))
node_same second p q (Branch j) (Bound w fs) l m f g e = absurd (omega (arith, ap (λ x. first (drop 1 x)) e))
node_same second p q (Farkas fs) (Branch k) l m f g e = absurd (omega (arith, ap first e))
node_same second p q (Farkas fs) (Farkas gs) l m f g e = ap Farkas (factors_same second fs gs (f.0 ∙ sym g.0) (omega (arith, f.0)) f.1 g.1 (append_cancel_left (codes "farkas") (spaced (factors second fs) ++ 10 ∷ []) (spaced (factors second gs) ++ 10 ∷ []) e))
node_same second p q (Farkas fs) (Bound w gs) l m f g e = absurd (omega (arith, ap first e))
node_same second p q (Bound w fs) (Branch k) l m f g e = absurd (omega (arith, ap (λ x. first (drop 1 x)) e))
node_same second p q (Bound w fs) (Farkas gs) l m f g e = absurd (omega (arith, ap first e))
node_same second p q (Bound w fs) (Bound v gs) l m f g e =
    let s = weight_same w v (factors second fs) (factors second gs) f.1 g.1 (append_cancel_left (codes "bound") (spaced (signed_decimal w ∷ factors second fs) ++ 10 ∷ []) (spaced (signed_decimal v ∷ factors second gs) ++ 10 ∷ []) e) in
    let a : fs ≡ gs = factors_same second fs gs (f.2 ∙ sym g.2) (omega (arith, f.2)) f.3 g.3 s.1 in
    ap (λ x. Bound x fs) s.0 ∙ ap (λ x. Bound v x) a

-- ---- trees
nodes_same : (second : Bool) (p q n : ℕ) (xs ys : List Node) (r s : List ℕ) → p ≤ 256 → q ≤ 512 → All (NodeFits p q) xs → All (NodeFits p q) ys → AreTrees n xs → AreTrees n ys → nodes_text second xs ++ r ≡ nodes_text second ys ++ s → (xs ≡ ys) × (r ≡ s)
nodes_same second p q zero [] [] r s l m f g a b e = (refl, e)
nodes_same second p q zero [] (y ∷ ys) r s l m f g a b e = absurd b
nodes_same second p q zero (x ∷ xs) ys r s l m f g a b e = absurd a
nodes_same second p q (suc n) [] ys r s l m f g a b e = absurd a
nodes_same second p q (suc n) (x ∷ xs) [] r s l m f g a b e = absurd b
nodes_same second p q (suc n) (x ∷ xs) (y ∷ ys) r s l m f g a b e =
    let fx = All-head (NodeFits p q) x xs f in
    let fy = All-head (NodeFits p q) y ys g in
    let t = lines_same (node_text second x) (node_text second y) (nodes_text second xs ++ r) (nodes_text second ys ++ s) (node_line second p q x l m fx) (node_line second p q y l m fy) (sym (append_assoc (node_text second x) (nodes_text second xs) r) ∙ (e ∙ append_assoc (node_text second y) (nodes_text second ys) s)) in
    let same : x ≡ y = node_same second p q x y l m fx fy t.0 in
    let rest = onward x a (subst (λ (z : Node). AreTrees (suc n) (z ∷ ys)) (sym same) b) (λ k c d. nodes_same second p q k xs ys r s l m (All-tail (NodeFits p q) x xs f) (All-tail (NodeFits p q) y ys g) c d t.1) in
    (ap (λ z. z ∷ xs) same ∙ ap (λ zs. y ∷ zs) rest.0, rest.1)
  where
    onward : (z : Node) → AreTrees (suc n) (z ∷ xs) → AreTrees (suc n) (z ∷ ys) → ((k : ℕ) → AreTrees k xs → AreTrees k ys → (xs ≡ ys) × (r ≡ s)) → (xs ≡ ys) × (r ≡ s)
    onward (Branch i) c d go = go (suc (suc n)) c d
    onward (Farkas fs) c d go = go n c d
    onward (Bound w fs) c d go = go n c d

tree_eq : (t u : Tree) → t.nodes ≡ u.nodes → t ≡ u
tree_eq t u e = subst Same e base u.whole
  where
    Same : List Node → Type 0
    Same ns = (w : AreTrees 1 ns) → t ≡ record { nodes = ns; whole = w }

    base : Same t.nodes
    base w = λ i. record { nodes = t.nodes; whole = AreTrees-prop 1 t.nodes t.whole w i }

-- ---- verdicts
pub point_line : (fs : List Frac) → IsLine (point_text fs)
point_line fs = line_is (codes "point") (map fraction_text fs) refl (fractions_lack fs)

points_same : (fs gs : List Frac) (r s : List ℕ) → point_text fs ++ r ≡ point_text gs ++ s → (fs ≡ gs) × (r ≡ s)
points_same fs gs r s e =
    let t = lines_same (point_text fs) (point_text gs) r s (point_line fs) (point_line gs) e in
    (fractions_same fs gs (append_cancel_left (codes "point") (spaced (map fraction_text fs) ++ 10 ∷ []) (spaced (map fraction_text gs) ++ 10 ∷ []) t.0), t.1)

verdict_same : (second : Bool) (b q p : ℕ) (v w : Verdict) (r s : List ℕ) → p ≤ 256 → q ≤ 512 → VerdictFits b q p v → VerdictFits b q p w → verdict_text second v ++ r ≡ verdict_text second w ++ s → v ≡ w
verdict_same second b q p (Point fs) (Point gs) r s l m f g e = ap Point (points_same fs gs r s e).0
verdict_same second b q p (Point fs) (Missing u) r s l m f g e = absurd (omega (arith, ap first e))
verdict_same second b q p (Point fs) (Best gs u) r s l m f g e = absurd (omega (arith, ap first e))
verdict_same second b q p (Point fs) (Unbounded gs hs) r s l m f g e = absurd (omega (arith, ap first e))
verdict_same second b q p (Missing t) (Point gs) r s l m f g e = absurd (omega (arith, ap first e))
verdict_same second b q p (Missing t) (Missing u) r s l m f g e =
    let d : nodes_text second t.nodes ++ r ≡ nodes_text second u.nodes ++ s = append_cancel_left (line (codes "none") []) (nodes_text second t.nodes ++ r) (nodes_text second u.nodes ++ s) (sym (append_assoc (line (codes "none") []) (nodes_text second t.nodes) r) ∙ (e ∙ append_assoc (line (codes "none") []) (nodes_text second u.nodes) s)) in
    ap Missing (tree_eq t u (nodes_same second p q 1 t.nodes u.nodes r s l m f g t.whole u.whole d).0)
verdict_same second b q p (Missing t) (Best gs u) r s l m f g e = absurd (omega (arith, ap first e))
verdict_same second b q p (Missing t) (Unbounded gs hs) r s l m f g e = absurd (omega (arith, ap first e))
verdict_same second b q p (Best fs t) (Point gs) r s l m f g e = absurd (omega (arith, ap first e))
verdict_same second b q p (Best fs t) (Missing u) r s l m f g e = absurd (omega (arith, ap first e))
verdict_same second b q p (Best fs t) (Best gs u) r s l m f g e =
    let w : List ℕ = line (codes "best") [] in
    let x : List ℕ = nodes_text second t.nodes in
    let y : List ℕ = nodes_text second u.nodes in
    let left : (w ++ (point_text fs ++ x)) ++ r ≡ w ++ (point_text fs ++ (x ++ r)) = append_assoc w (point_text fs ++ x) r ∙ ap (λ z. w ++ z) (append_assoc (point_text fs) x r) in
    let right : (w ++ (point_text gs ++ y)) ++ s ≡ w ++ (point_text gs ++ (y ++ s)) = append_assoc w (point_text gs ++ y) s ∙ ap (λ z. w ++ z) (append_assoc (point_text gs) y s) in
    let d = points_same fs gs (x ++ r) (y ++ s) (append_cancel_left w (point_text fs ++ (x ++ r)) (point_text gs ++ (y ++ s)) (sym left ∙ (e ∙ right))) in
    ap (λ z. Best z t) d.0 ∙ ap (λ z. Best gs z) (tree_eq t u (nodes_same second p q 1 t.nodes u.nodes r s l m f.1 g.1 t.whole u.whole d.1).0)
verdict_same second b q p (Best fs t) (Unbounded gs hs) r s l m f g e = absurd (omega (arith, ap first e))
verdict_same second b q p (Unbounded fs hs) (Point gs) r s l m f g e = absurd (omega (arith, ap first e))
verdict_same second b q p (Unbounded fs hs) (Missing u) r s l m f g e = absurd (omega (arith, ap first e))
verdict_same second b q p (Unbounded fs hs) (Best gs u) r s l m f g e = absurd (omega (arith, ap first e))
verdict_same second b q p (Unbounded fs hs) (Unbounded gs is) r s l m f g e =
    let w : List ℕ = line (codes "unbounded") [] in
    let left : (w ++ (point_text fs ++ ray_text hs)) ++ r ≡ w ++ (point_text fs ++ (ray_text hs ++ r)) = append_assoc w (point_text fs ++ ray_text hs) r ∙ ap (λ z. w ++ z) (append_assoc (point_text fs) (ray_text hs) r) in
    let right : (w ++ (point_text gs ++ ray_text is)) ++ s ≡ w ++ (point_text gs ++ (ray_text is ++ s)) = append_assoc w (point_text gs ++ ray_text is) s ∙ ap (λ z. w ++ z) (append_assoc (point_text gs) (ray_text is) s) in
    let d = points_same fs gs (ray_text hs ++ r) (ray_text is ++ s) (append_cancel_left w (point_text fs ++ (ray_text hs ++ r)) (point_text gs ++ (ray_text is ++ s)) (sym left ∙ (e ∙ right))) in
    let k = lines_same (ray_text hs) (ray_text is) r s (line_is (codes "ray") (map fraction_text hs) refl (fractions_lack hs)) (line_is (codes "ray") (map fraction_text is) refl (fractions_lack is)) d.1 in
    let c : hs ≡ is = fractions_same hs is (append_cancel_left (codes "ray") (spaced (map fraction_text hs) ++ 10 ∷ []) (spaced (map fraction_text is) ++ 10 ∷ []) k.0) in
    ap (λ z. Unbounded z hs) d.0 ∙ ap (λ z. Unbounded gs z) c

-- ---- pairs
pub pair_line : (q : ℕ) (x : ℕ × ℕ) → q ≤ 512 → IsNumber q x.0 → IsNumber q x.1 → IsLine (pair_text x)
pair_line q x l i j = line_is (codes "pair") (decimal x.0 ∷ (decimal x.1 ∷ [])) refl (count_lacks x.0 (omega (arith, i.1)), (count_lacks x.1 (omega (arith, j.1)), tt))

pair_same : (q : ℕ) (x y : ℕ × ℕ) → q ≤ 512 → IsNumber q x.0 → IsNumber q x.1 → IsNumber q y.0 → IsNumber q y.1 → pair_text x ≡ pair_text y → x ≡ y
pair_same q (a, b) (c, d) l i j k n e =
    let z = numbers_same (pos a ∷ (pos b ∷ [])) (pos c ∷ (pos d ∷ [])) (narrow_two a b q (omega (arith, l)) i j) (narrow_two c d q (omega (arith, l)) k n) (append_cancel_left (codes "pair") (spaced (decimal a ∷ (decimal b ∷ [])) ++ 10 ∷ []) (spaced (decimal c ∷ (decimal d ∷ [])) ++ 10 ∷ []) e) in
    let u : a ≡ c = cc in
    let v : b ≡ d = cc in
    ap (λ x. (x, b)) u ∙ ap (λ x. (c, x)) v

abbrev PairFirst : ℕ → ℕ × ℕ → Type 0
PairFirst q p = IsNumber q p.0

abbrev PairSecond : ℕ → ℕ × ℕ → Type 0
PairSecond q p = IsNumber q p.1

pairs_same : (q : ℕ) (xs ys : List (ℕ × ℕ)) (r s : List ℕ) → q ≤ 512 → length xs ≡ length ys → All (PairFirst q) xs → All (PairSecond q) xs → All (PairFirst q) ys → All (PairSecond q) ys → pairs_text xs ++ r ≡ pairs_text ys ++ s → (xs ≡ ys) × (r ≡ s)
pairs_same q [] [] r s l n a b c d e = (refl, e)
pairs_same q [] (y ∷ ys) r s l n a b c d e = absurd (omega arith)
pairs_same q (x ∷ xs) [] r s l n a b c d e = absurd (omega arith)
pairs_same q (x ∷ xs) (y ∷ ys) r s l n a b c d e =
    let xa = All-head (PairFirst q) x xs a in
    let xb = All-head (PairSecond q) x xs b in
    let yc = All-head (PairFirst q) y ys c in
    let yd = All-head (PairSecond q) y ys d in
    let t = lines_same (pair_text x) (pair_text y) (pairs_text xs ++ r) (pairs_text ys ++ s) (pair_line q x l xa xb) (pair_line q y l yc yd) (sym (append_assoc (pair_text x) (pairs_text xs) r) ∙ (e ∙ append_assoc (pair_text y) (pairs_text ys) s)) in
    let hd : x ≡ y = pair_same q x y l xa xb yc yd t.0 in
    let k = pairs_same q xs ys r s l (omega arith) (All-tail (PairFirst q) x xs a) (All-tail (PairSecond q) x xs b) (All-tail (PairFirst q) y ys c) (All-tail (PairSecond q) y ys d) t.1 in
    (ap (λ z. z ∷ xs) hd ∙ ap (λ zs. y ∷ zs) k.0, k.1)

links_same : (o u : Option (List (ℕ × ℕ))) (q p : ℕ) (r s : List ℕ) → q ≤ 512 → is_second o ≡ is_second u → ((xs : List (ℕ × ℕ)) → o ≡ Some xs → LinksFit q p xs) → ((xs : List (ℕ × ℕ)) → u ≡ Some xs → LinksFit q p xs) → links_text o ++ r ≡ links_text u ++ s → (o ≡ u) × (r ≡ s)
links_same None None q p r s l v f g e = (refl, e)
links_same None (Some ys) q p r s l v f g e = absurd (false≢true v)
links_same (Some xs) None q p r s l v f g e = absurd (true≢false v)
links_same (Some xs) (Some ys) q p r s l v f g e =
    let a = f xs refl in
    let b = g ys refl in
    let k = pairs_same q xs ys r s l (a.count ∙ sym b.count) a.first a.second b.first b.second e in
    (ap Some k.0, k.1)

-- ---- certificates
counts_line : (c : Cert) → IsLine (counts_text c)
counts_line c = line_is (codes "rows") (decimal c.base ∷ (decimal c.quantities ∷ (decimal c.pairs ∷ []))) refl (count_lacks c.base (omega (arith, c.counts.few_variables)), (count_lacks c.quantities (omega (arith, c.counts.few_quantities)), (count_lacks c.pairs (omega (arith, c.counts.few_pairs)), tt)))

pub cert_same : (c d : Cert) → cert_text c ≡ cert_text d → IsSame c d
cert_same c d e =
    let end : List ℕ = codes "end\n" in
    let v = lines_same (version_text (is_second c.links)) (version_text (is_second d.links)) (counts_text c ++ (links_text c.links ++ (verdict_text (is_second c.links) c.verdict ++ end))) (counts_text d ++ (links_text d.links ++ (verdict_text (is_second d.links) d.verdict ++ end))) (version_line (is_second c.links)) (version_line (is_second d.links)) e in
    let second : is_second c.links ≡ is_second d.links = same_version (is_second c.links) (is_second d.links) v.0 in
    let k = lines_same (counts_text c) (counts_text d) (links_text c.links ++ (verdict_text (is_second c.links) c.verdict ++ end)) (links_text d.links ++ (verdict_text (is_second d.links) d.verdict ++ end)) (counts_line c) (counts_line d) v.1 in
    let s = sizes_same c.base c.quantities c.pairs d.base d.quantities d.pairs c.counts d.counts k.0 in
    let linked : (xs : List (ℕ × ℕ)) → d.links ≡ Some xs → LinksFit c.quantities c.pairs xs = λ xs f. subst (λ (n : ℕ). LinksFit n c.pairs xs) (sym s.1) (subst (λ (n : ℕ). LinksFit d.quantities n xs) (sym s.2) (d.linked xs f)) in
    let o = links_same c.links d.links c.quantities c.pairs (verdict_text (is_second c.links) c.verdict ++ end) (verdict_text (is_second d.links) d.verdict ++ end) c.counts.few_quantities second c.linked linked k.1 in
    let fits : VerdictFits c.base c.quantities c.pairs d.verdict = subst (λ (n : ℕ). VerdictFits n c.quantities c.pairs d.verdict) (sym s.0) (subst (λ (n : ℕ). VerdictFits d.base n c.pairs d.verdict) (sym s.1) (subst (λ (n : ℕ). VerdictFits d.base d.quantities n d.verdict) (sym s.2) d.fits)) in
    let u : verdict_text (is_second c.links) c.verdict ++ end ≡ verdict_text (is_second c.links) d.verdict ++ end = o.1 ∙ ap (λ b. verdict_text b d.verdict ++ end) (sym second) in
    record {
      base = s.0;
      quantities = s.1;
      pairs = s.2;
      links = o.0;
      verdict = verdict_same (is_second c.links) c.base c.quantities c.pairs c.verdict d.verdict end end c.counts.few_pairs c.counts.few_quantities c.fits fits u;
    }

-- the text of a certificate is read, and as that one
pub each_read : (t : List ℕ) (c : Cert) (r : Result Cert CertFault) → IfOk r (λ d. t ≡ cert_text d) → IfErr r (ReadFails t) → length t ≤ longest → t ≡ cert_text c → IsRead c r
each_read t c (Ok d) g h l e = cert_same c d (sym e ∙ g)
each_read t c (Err f) g h l e = subst (λ (x : CertFault). IsRead c (Err x)) (sym (cert_fails c f (omega (arith, l, ap length e)) (subst (λ (x : List ℕ). ReadFails x f) e h))) tt

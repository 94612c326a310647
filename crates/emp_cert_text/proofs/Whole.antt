-- Each certificate's text runs to the end, and so has no fault.
use Rattle.std.proofs.Common.{◌≡◌, inl, inr, ℕ, zero, suc, ◌+◌, ◌^◌, ◌<◌, ◌≤◌, Bool, true, false, cond, not, nat_eq, ℤ, pos, List, [], ◌∷◌, ◌++◌, map, length, drop, decimal, codes, Option, Some, None, arith, refl, sym, ap, subst, ◌∙◌, append_assoc, append-nil, All}
use Rattle.std.specs.Fmt.{signed_decimal}
use Rattle.std.specs.Io.BufRead.{take_through, drop_through}
use Rattle.std.proofs.lemmas.Bool.{and_parts, cond-false, not-true}
use Rattle.std.proofs.lemmas.Int.{ints}
use Rattle.std.proofs.lemmas.List.{append_cancel_left}
use Rattle.std.proofs.lemmas.List.Elements.{All-head, All-tail}
use Rattle.emp_num.specs.Exact.{IsNarrow}
use Rattle.emp_numeral.specs.FracText.{fraction_text}
use Rattle.emp_numeral.specs.Numeral.{first}
use Rattle.emp_num.specs.declared.frac.Frac.{Frac}
use Rattle.emp_rows.specs.Points.{IsNumber}
use Rattle.emp_algebra.specs.Vector.{is_zero}
use Rattle.emp_cert.specs.Certs.{Counts, NodeFits, LinksFit, VerdictFits}
use Rattle.emp_cert.specs.Nodes.{AreTrees}
use Rattle.emp_cert.specs.declared.cert.Cert.{Cert}
use Rattle.emp_cert.specs.declared.cert.Verdict.{Verdict}
use Rattle.emp_cert.specs.declared.cert.Verdict.TheVariants.{Point, Missing, Best, Unbounded}
use Rattle.emp_cert.specs.declared.tree.Node.{Node}
use Rattle.emp_cert.specs.declared.tree.Node.TheVariants.{Branch, Farkas, Bound}
use Rattle.emp_cert_text.specs.Text.{spaced, line, sparse, factors, node_text, nodes_text, point_text, ray_text, pair_text, pairs_text, sizes_text, counts_text, links_text, is_second, version_text, verdict_text, cert_text}
use Rattle.emp_cert_text.specs.Words.{lacks}
use Rattle.emp_cert_text.specs.Lines.{PointFits, PointRight, NodeRight}
use Rattle.emp_cert_text.specs.Lines.NodeRight.{branch, farkas, bound}
use Rattle.emp_cert_text.specs.Course.{Head, head_of, Part, VerdictStands, Stands, Right, Runs, Reaches, Wrong, pairs_before, trees_before, behind_counts, behind_node}
use Rattle.emp_cert_text.specs.Course.Part.{counts, pair, verdict, point, ray, tree, last}
use Rattle.emp_cert_text.specs.Course.VerdictStands.{no_point, best_point, step, a_point}
use Rattle.emp_cert_text.specs.Reading.{ReadFails}
use Rattle.emp_cert_text.specs.Writing.{longest}
use Rattle.emp_cert_text.specs.declared.read.CertFault.{CertFault}
use Rattle.emp_cert_text.specs.declared.read.CertFault.TheVariants.{TooLong, Version, Range, Syntax, NoMemory}
use Rattle.emp_cert_text.proofs.Numbers.{signed_is, lacks_append, signed_lacks, fraction_parts, FractionParts}
use Rattle.emp_cert_text.proofs.Numbers.FractionParts.{whole_part, quotient_part}
use Rattle.emp_cert_text.proofs.Heads.{numbers_same, narrow_three, narrow_two, numbers_right, fractions_right}
use Rattle.emp_cert_text.proofs.Factors.{factors_written}
use Rattle.emp_cert_text.proofs.Nodes.{narrow_one}

-- ---- one line, one way
pub sizes_same : (b q p d r s : ℕ) → Counts b q p → Counts d r s → sizes_text b q p ≡ sizes_text d r s → (b ≡ d) × (q ≡ r) × (p ≡ s)
sizes_same b q p d r s c k e =
    let z = numbers_same (pos b ∷ (pos q ∷ (pos p ∷ []))) (pos d ∷ (pos r ∷ (pos s ∷ []))) (narrow_three b q p c) (narrow_three d r s k) (append_cancel_left (codes "rows") (spaced (map signed_decimal (pos b ∷ (pos q ∷ (pos p ∷ [])))) ++ 10 ∷ []) (spaced (map signed_decimal (pos d ∷ (pos r ∷ (pos s ∷ [])))) ++ 10 ∷ []) e) in
    (cc, cc, cc)

-- what comes behind a verdict's line, by its first byte
abbrev verdict_parts : Head → ℕ → List Part
verdict_parts h b = cond (nat_eq b 110) (tree h ∷ []) (cond (nat_eq b 98) (point h.base ∷ (tree h ∷ [])) (cond (nat_eq b 117) (point h.base ∷ (ray h.base ∷ [])) []))

verdict_is : (h : Head) (l : List ℕ) (qs : List Part) → VerdictStands h l qs → qs ≡ verdict_parts h (first l)
verdict_is h l qs no_point = refl
verdict_is h l qs best_point = refl
verdict_is h l qs step = refl
verdict_is h l qs (a_point m f) = sym (ap (λ x. verdict_parts h (first x)) f.2)

-- what comes behind a node's line, by its second byte
abbrev node_parts : Head → ℕ → List Part
node_parts h b = cond (nat_eq b 114) (tree h ∷ (tree h ∷ [])) []

node_is : (h : Head) (l : List ℕ) (n : Node) → l ≡ node_text h.second n → behind_node h n ≡ node_parts h (first (drop 1 l))
node_is h l (Branch k) e = sym (ap (λ x. node_parts h (first (drop 1 x))) e)
node_is h l (Farkas fs) e = sym (ap (λ x. node_parts h (first (drop 1 x))) e)
node_is h l (Bound w fs) e = sym (ap (λ x. node_parts h (first (drop 1 x))) e)

pub stands_same : (p : Part) (l : List ℕ) (qs ms : List Part) → Stands p l qs → Stands p l ms → qs ≡ ms
stands_same (counts second) l qs ms h k =
    let s = sizes_same h.0 h.1 h.2 k.0 k.1 k.2 h.3 k.3 (sym h.4 ∙ k.4) in
    h.5 ∙ (ap (λ x. behind_counts second x h.1 h.2) s.0 ∙ (ap (λ x. behind_counts second k.0 x h.2) s.1 ∙ (ap (λ x. behind_counts second k.0 k.1 x) s.2 ∙ sym k.5)))
stands_same (pair q) l qs ms h k = h.1 ∙ sym k.1
stands_same (verdict x) l qs ms h k = verdict_is x l qs h ∙ sym (verdict_is x l ms k)
stands_same (point b) l qs ms h k = h.1 ∙ sym k.1
stands_same (ray b) l qs ms h k = h.1 ∙ sym k.1
stands_same (tree x) l qs ms h k = h.3 ∙ (node_is x l h.0 h.2 ∙ (sym (node_is x l k.0 k.2) ∙ sym k.3))
stands_same last l qs ms h k = h.1 ∙ sym k.1

point_right : (b : ℕ) (l : List ℕ) → PointFits b l → PointRight b l
point_right b l h = (spaced (map fraction_text h.0) ++ 10 ∷ [], h.2, fractions_right b _ h.0 refl h.1)

verdict_right : (h : Head) (l : List ℕ) (qs : List Part) → VerdictStands h l qs → Right (verdict h) l
verdict_right h l qs no_point = inl refl
verdict_right h l qs best_point = inr (inl refl)
verdict_right h l qs step = inr (inr (inl refl))
verdict_right h l qs (a_point m f) = inr (inr (inr (point_right h.base m f)))

node_right : (h : Head) (l : List ℕ) (n : Node) → h.quantities ≤ 512 → h.pairs ≤ 256 → NodeFits h.pairs h.quantities n → l ≡ node_text h.second n → NodeRight h.second h.quantities l
node_right h l (Branch k) a b f e = branch (spaced (map signed_decimal (pos k ∷ [])) ++ 10 ∷ []) e (numbers_right 1 _ (pos k ∷ []) refl refl (narrow_one k h.pairs (omega (arith, b)) f))
node_right h l (Farkas fs) a b f e = farkas (spaced (factors h.second fs) ++ 10 ∷ []) e (factors_written h.second h.quantities _ fs refl f.0 (omega (arith, a)) f.1)
node_right h l (Bound w fs) a b f e =
    bound (signed_decimal w) (spaced (factors h.second fs) ++ 10 ∷ []) (e ∙ ap (λ x. codes "bound" ++ 32 ∷ x) (append_assoc (signed_decimal w) (spaced (factors h.second fs)) (10 ∷ []))) (signed_is w f.1).0
    (factors_written h.second h.quantities _ fs refl f.2 (omega (arith, a)) f.3)

-- the numbers of a part are within their ranges
abbrev pub Small : Part → Type 0
Small (counts second) = Unit {0}
Small (pair q) = q ≤ 512
Small (verdict h) = (h.quantities ≤ 512) × (h.pairs ≤ 256)
Small (point b) = Unit {0}
Small (ray b) = Unit {0}
Small (tree h) = (h.quantities ≤ 512) × (h.pairs ≤ 256)
Small last = Unit {0}

abbrev pub AllSmall : List Part → Type 0
AllSmall [] = Unit {0}
AllSmall (p ∷ ps) = Small p × AllSmall ps

pub small_append : (ps qs : List Part) → AllSmall ps → AllSmall qs → AllSmall (ps ++ qs)
small_append [] qs h k = k
small_append (p ∷ ps) qs h k = (h.0, small_append ps qs h.1 k)

small_pairs : (n q : ℕ) (ps : List Part) → q ≤ 512 → AllSmall ps → AllSmall (pairs_before n q ps)
small_pairs zero q ps l h = h
small_pairs (suc n) q ps l h = (l, small_pairs n q ps l h)

small_counts : (second : Bool) (b q p : ℕ) → Counts b q p → AllSmall (behind_counts second b q p)
small_counts false b q p c = ((c.few_quantities, c.few_pairs), (tt, tt))
small_counts true b q p c = small_pairs p q (verdict (head_of true b q p) ∷ (last ∷ [])) c.few_quantities ((c.few_quantities, c.few_pairs), (tt, tt))

small_verdict : (h : Head) (l : List ℕ) (qs : List Part) → (h.quantities ≤ 512) × (h.pairs ≤ 256) → VerdictStands h l qs → AllSmall qs
small_verdict h l qs s no_point = (s, tt)
small_verdict h l qs s best_point = (tt, (s, tt))
small_verdict h l qs s step = (tt, (tt, tt))
small_verdict h l qs s (a_point m f) = tt

small_node : (h : Head) (n : Node) → (h.quantities ≤ 512) × (h.pairs ≤ 256) → AllSmall (behind_node h n)
small_node h (Branch k) s = (s, (s, tt))
small_node h (Farkas fs) s = tt
small_node h (Bound w fs) s = tt

pub small_on : (p : Part) (l : List ℕ) (qs : List Part) → Small p → Stands p l qs → AllSmall qs
small_on (counts second) l qs s h = subst (λ (x : List Part). AllSmall x) (sym h.5) (small_counts second h.0 h.1 h.2 h.3)
small_on (pair q) l qs s h = subst (λ (x : List Part). AllSmall x) (sym h.1) tt
small_on (verdict x) l qs s h = small_verdict x l qs s h
small_on (point b) l qs s h = subst (λ (x : List Part). AllSmall x) (sym h.1) tt
small_on (ray b) l qs s h = subst (λ (x : List Part). AllSmall x) (sym h.1) tt
small_on (tree x) l qs s h = subst (λ (y : List Part). AllSmall y) (sym h.3) (small_node x h.0 s)
small_on last l qs s h = subst (λ (x : List Part). AllSmall x) (sym h.1) tt

pub small_runs : (n : ℕ) (ps : List Part) (t : List ℕ) (qs : List Part) (r : List ℕ) → AllSmall ps → Runs n ps t qs r → AllSmall qs
small_runs zero ps t qs r s h = subst (λ (x : List Part). AllSmall x) h.0 s
small_runs (suc n) [] t qs r s h = absurd h
small_runs (suc n) (p ∷ ps) t qs r s h = small_runs n (h.0 ++ ps) (drop_through 10 t) qs r (small_append h.0 ps (small_on p (take_through 10 t) h.0 s.0 h.1) s.1) h.2

pub right_stands : (p : Part) (l : List ℕ) (qs : List Part) → Small p → Stands p l qs → Right p l
right_stands (counts second) l qs s h = (spaced (map signed_decimal (pos h.0 ∷ (pos h.1 ∷ (pos h.2 ∷ [])))) ++ 10 ∷ [], h.4, numbers_right 3 _ (pos h.0 ∷ (pos h.1 ∷ (pos h.2 ∷ []))) refl refl (narrow_three h.0 h.1 h.2 h.3))
right_stands (pair q) l qs s h = (spaced (map signed_decimal (pos h.0.0.0 ∷ (pos h.0.0.1 ∷ []))) ++ 10 ∷ [], h.0.3, numbers_right 2 _ (pos h.0.0.0 ∷ (pos h.0.0.1 ∷ [])) refl refl (narrow_two h.0.0.0 h.0.0.1 q (omega (arith, s)) h.0.1 h.0.2))
right_stands (verdict x) l qs s h = verdict_right x l qs h
right_stands (point b) l qs s h = point_right b l h.0
right_stands (ray b) l qs s h = (spaced (map fraction_text h.0.0) ++ 10 ∷ [], h.0.2, fractions_right b _ h.0.0 refl h.0.1)
right_stands (tree x) l qs s h = node_right x l h.0 s.0 s.1 h.1 h.2
right_stands last l qs s h = h.0

-- a text that runs to the end breaks off nowhere
abbrev Ends : ℕ → List Part → List ℕ → Type 0
Ends n ps t = Runs n ps t [] []

meets : (m n : ℕ) (ps : List Part) (t : List ℕ) (qs : List Part) (r : List ℕ) → Runs m ps t qs r → Ends n ps t → (k : ℕ) × Ends k qs r
meets zero n ps t qs r h e = (n, subst (λ (x : List ℕ). Ends n qs x) h.1 (subst (λ (x : List Part). Ends n x t) h.0 e))
meets (suc m) zero [] t qs r h e = absurd h
meets (suc m) zero (p ∷ ps) t qs r h e = absurd (let f : ◌≡◌ {A = List Part} (p ∷ ps) [] = e.0 in cc)
meets (suc m) (suc n) [] t qs r h e = absurd h
meets (suc m) (suc n) (p ∷ ps) t qs r h e =
    let s : e.0 ≡ h.0 = stands_same p (take_through 10 t) e.0 h.0 e.1 h.1 in
    meets m n (h.0 ++ ps) (drop_through 10 t) qs r h.2 (subst (λ (x : List Part). Ends n (x ++ ps) (drop_through 10 t)) s e.2)

no_range : (k : ℕ) (p : Part) (ps : List Part) (r : List ℕ) → Ends k (p ∷ ps) r → ((qs : List Part) → Stands p (take_through 10 r) qs → ⊥) → ⊥
no_range zero p ps r e h = absurd (let f : ◌≡◌ {A = List Part} (p ∷ ps) [] = e.0 in cc)
no_range (suc k) p ps r e h = h e.0 e.1

no_syntax : (k : ℕ) (ps : List Part) (r : List ℕ) → AllSmall ps → Ends k ps r → Wrong ps r → ⊥
no_syntax zero [] r s e h = h e.1
no_syntax (suc k) [] r s e h = absurd e
no_syntax zero (p ∷ ps) r s e h = absurd (let f : ◌≡◌ {A = List Part} (p ∷ ps) [] = e.0 in cc)
no_syntax (suc k) (p ∷ ps) r s e h = h (right_stands p (take_through 10 r) e.0 s.0 e.1)

-- ---- texts of lines
-- the text is one line with its LF
pub record IsLine (l : List ℕ) : Type 0 where
  pub first_is : (r : List ℕ) → take_through 10 (l ++ r) ≡ l
  pub rest_is : (r : List ℕ) → drop_through 10 (l ++ r) ≡ r

pub line_of : (w : List ℕ) → lacks 10 w ≡ true → IsLine (w ++ 10 ∷ [])
line_of [] h = record { first_is = λ r. refl; rest_is = λ r. refl }
line_of (b ∷ bs) h =
    let p = and_parts (not (nat_eq b 10)) (lacks 10 bs) h in
    let n : nat_eq b 10 ≡ false = not-true (nat_eq b 10) p.0 in
    let k = line_of bs p.1 in
    record {
      first_is = λ r. cond-false (nat_eq b 10) (b ∷ []) (b ∷ take_through 10 ((bs ++ 10 ∷ []) ++ r)) n ∙ ap (λ x. b ∷ x) (k.first_is r);
      rest_is = λ r. cond-false (nat_eq b 10) ((bs ++ 10 ∷ []) ++ r) (drop_through 10 ((bs ++ 10 ∷ []) ++ r)) n ∙ k.rest_is r;
    }

abbrev Lack : List (List ℕ) → Type 0
Lack [] = Unit {0}
Lack (w ∷ ws) = (lacks 10 w ≡ true) × Lack ws

spaced_lacks : (ws : List (List ℕ)) → Lack ws → lacks 10 (spaced ws) ≡ true
spaced_lacks [] h = refl
spaced_lacks (w ∷ ws) h = lacks_append 10 w (spaced ws) h.0 (spaced_lacks ws h.1)

pub line_is : (w : List ℕ) (ws : List (List ℕ)) → lacks 10 w ≡ true → Lack ws → IsLine (line w ws)
line_is w ws h k = subst (λ (x : List ℕ). IsLine x) (append_assoc w (spaced ws) (10 ∷ [])) (line_of (w ++ spaced ws) (lacks_append 10 w (spaced ws) h (spaced_lacks ws k)))

number_lacks : (z : ℤ) → IsNarrow z → lacks 10 (signed_decimal z) ≡ true
number_lacks z n = signed_lacks 10 z refl (λ e. absurd (omega (arith, e))) n

pub count_lacks : (n : ℕ) → n < 2 ^ 126 → lacks 10 (decimal n) ≡ true
count_lacks n l = number_lacks (pos n) (omega (arith, ints, l))

fraction_lacks : (f : Frac) → lacks 10 (fraction_text f) ≡ true
fraction_lacks f = go (fraction_parts f)
  where
    go : FractionParts f → lacks 10 (fraction_text f) ≡ true
    go (whole_part e d) = ap (lacks 10) e ∙ number_lacks f.num f.num_narrow
    go (quotient_part k e d l m) = ap (lacks 10) e ∙ lacks_append 10 (signed_decimal f.num) (47 ∷ decimal k) (number_lacks f.num f.num_narrow) (count_lacks k m)

pub fractions_lack : (fs : List Frac) → Lack (map fraction_text fs)
fractions_lack [] = tt
fractions_lack (f ∷ fs) = (fraction_lacks f, fractions_lack fs)

numbers_lack : (zs : List ℤ) → All IsNarrow zs → Lack (map signed_decimal zs)
numbers_lack [] h = tt
numbers_lack (z ∷ zs) h = (number_lacks z (All-head IsNarrow z zs h), numbers_lack zs (All-tail IsNarrow z zs h))

sparse_lack : (k : ℕ) (zs : List ℤ) → k + length zs < 2 ^ 126 → All IsNarrow zs → Lack (sparse k zs)
sparse_lack k [] l h = tt
sparse_lack k (z ∷ zs) l h = go (is_zero z) (sparse_lack (k + 1) zs (omega arith) (All-tail IsNarrow z zs h))
  where
    go : (b : Bool) → Lack (sparse (k + 1) zs) → Lack (cond b (sparse (k + 1) zs) ((decimal k ++ (58 ∷ signed_decimal z)) ∷ sparse (k + 1) zs))
    go true r = r
    go false r = (lacks_append 10 (decimal k) (58 ∷ signed_decimal z) (count_lacks k (omega arith)) (number_lacks z (All-head IsNarrow z zs h)), r)

factors_lack : (second : Bool) (zs : List ℤ) → length zs ≤ 512 → All IsNarrow zs → Lack (factors second zs)
factors_lack false zs l h = numbers_lack zs h
factors_lack true zs l h = sparse_lack 1 zs (omega arith) h

pub node_line : (second : Bool) (p q : ℕ) (n : Node) → p ≤ 256 → q ≤ 512 → NodeFits p q n → IsLine (node_text second n)
node_line second p q (Branch k) l m h = line_is (codes "branch") (decimal k ∷ []) refl (count_lacks k (omega (arith, h.1)), tt)
node_line second p q (Farkas fs) l m h = line_is (codes "farkas") (factors second fs) refl (factors_lack second fs (omega (arith, h.0)) h.1)
node_line second p q (Bound w fs) l m h = line_is (codes "bound") (signed_decimal w ∷ factors second fs) refl (number_lacks w h.1, factors_lack second fs (omega (arith, h.2)) h.3)

-- ---- from part to part
-- from the parts and the text one comes to those
abbrev pub Goes : List Part → List ℕ → List Part → List ℕ → Type 0
Goes ps t qs r = (n : ℕ) × Runs n ps t qs r

pub one_line : (p : Part) (ps ms : List Part) (l r : List ℕ) → IsLine l → Stands p l ms → Goes (p ∷ ps) (l ++ r) (ms ++ ps) r
one_line p ps ms l r k s = (1, (ms, subst (λ (x : List ℕ). Stands p x ms) (sym (k.first_is r)) s, (refl, k.rest_is r)))

pub goes_then : (ps : List Part) (t : List ℕ) (qs : List Part) (r : List ℕ) (us : List Part) (v : List ℕ) → Goes ps t qs r → Goes qs r us v → Goes ps t us v
goes_then ps t qs r us v (zero, h) g = subst (λ (x : List Part). Goes x t us v) (sym h.0) (subst (λ (x : List ℕ). Goes qs x us v) (sym h.1) g)
goes_then [] t qs r us v (suc n, h) g = absurd h
goes_then (p ∷ ps) t qs r us v (suc n, h) g =
    let k = goes_then (h.0 ++ ps) (drop_through 10 t) qs r us v (n, h.2) g in
    (suc k.0, (h.0, h.1, k.1))

nodes_go : (h : Head) (n : ℕ) (ns : List Node) (ps : List Part) (r : List ℕ) → h.pairs ≤ 256 → h.quantities ≤ 512 → All (NodeFits h.pairs h.quantities) ns → AreTrees n ns → Goes (trees_before n h ps) (nodes_text h.second ns ++ r) ps r
nodes_go h zero [] ps r l m f a = (0, (refl, refl))
nodes_go h zero (x ∷ ns) ps r l m f a = absurd a
nodes_go h (suc n) [] ps r l m f a = absurd a
nodes_go h (suc n) (x ∷ ns) ps r l m f a =
    let fx = All-head (NodeFits h.pairs h.quantities) x ns f in
    let u : List ℕ = nodes_text h.second ns ++ r in
    let start = one_line (tree h) (trees_before n h ps) (behind_node h x) (node_text h.second x) u (node_line h.second h.pairs h.quantities x l m fx) (x, fx, refl, refl) in
    subst (λ (t : List ℕ). Goes (trees_before (suc n) h ps) t ps r) (sym (append_assoc (node_text h.second x) (nodes_text h.second ns) r))
    (onward x a start (λ k b. nodes_go h k ns ps r l m (All-tail (NodeFits h.pairs h.quantities) x ns f) b))
  where
    onward : (y : Node) → AreTrees (suc n) (y ∷ ns) → Goes (trees_before (suc n) h ps) (node_text h.second x ++ (nodes_text h.second ns ++ r)) (behind_node h y ++ trees_before n h ps) (nodes_text h.second ns ++ r) → ((k : ℕ) → AreTrees k ns → Goes (trees_before k h ps) (nodes_text h.second ns ++ r) ps r) → Goes (trees_before (suc n) h ps) (node_text h.second x ++ (nodes_text h.second ns ++ r)) ps r
    onward (Branch i) b g go = goes_then (trees_before (suc n) h ps) _ (trees_before (suc (suc n)) h ps) _ ps r g (go (suc (suc n)) b)
    onward (Farkas fs) b g go = goes_then (trees_before (suc n) h ps) _ (trees_before n h ps) _ ps r g (go n b)
    onward (Bound w fs) b g go = goes_then (trees_before (suc n) h ps) _ (trees_before n h ps) _ ps r g (go n b)

point_goes : (p : Part) (ps : List Part) (b : ℕ) (fs : List Frac) (r : List ℕ) → Stands p (point_text fs) [] → Goes (p ∷ ps) (point_text fs ++ r) ps r
point_goes p ps b fs r s = one_line p ps [] (point_text fs) r (line_is (codes "point") (map fraction_text fs) refl (fractions_lack fs)) s

verdict_goes : (h : Head) (v : Verdict) (ps : List Part) (r : List ℕ) → h.pairs ≤ 256 → h.quantities ≤ 512 → VerdictFits h.base h.quantities h.pairs v → Goes (verdict h ∷ ps) (verdict_text h.second v ++ r) ps r
verdict_goes h (Point fs) ps r l m f = point_goes (verdict h) ps h.base fs r (a_point (point_text fs) (fs, f, refl))
verdict_goes h (Missing t) ps r l m f =
    subst (λ (x : List ℕ). Goes (verdict h ∷ ps) x ps r) (sym (append_assoc (line (codes "none") []) (nodes_text h.second t.nodes) r))
    (goes_then (verdict h ∷ ps) _ (tree h ∷ ps) _ ps r
    (one_line (verdict h) ps (tree h ∷ []) (line (codes "none") []) (nodes_text h.second t.nodes ++ r) (line_is (codes "none") [] refl tt) no_point)
    (nodes_go h 1 t.nodes ps r l m f t.whole))
verdict_goes h (Best fs t) ps r l m f =
    let nodes : List ℕ = nodes_text h.second t.nodes in
    let e : (line (codes "best") [] ++ (point_text fs ++ nodes)) ++ r ≡ line (codes "best") [] ++ (point_text fs ++ (nodes ++ r)) = append_assoc (line (codes "best") []) (point_text fs ++ nodes) r ∙ ap (λ x. line (codes "best") [] ++ x) (append_assoc (point_text fs) nodes r) in
    subst (λ (x : List ℕ). Goes (verdict h ∷ ps) x ps r) (sym e)
    (goes_then (verdict h ∷ ps) _ (point h.base ∷ (tree h ∷ ps)) _ ps r
    (one_line (verdict h) ps (point h.base ∷ (tree h ∷ [])) (line (codes "best") []) (point_text fs ++ (nodes ++ r)) (line_is (codes "best") [] refl tt) best_point)
    (goes_then (point h.base ∷ (tree h ∷ ps)) _ (tree h ∷ ps) _ ps r
    (point_goes (point h.base) (tree h ∷ ps) h.base fs (nodes ++ r) ((fs, f.0, refl), refl))
    (nodes_go h 1 t.nodes ps r l m f.1 t.whole)))
verdict_goes h (Unbounded fs gs) ps r l m f =
    let e : (line (codes "unbounded") [] ++ (point_text fs ++ ray_text gs)) ++ r ≡ line (codes "unbounded") [] ++ (point_text fs ++ (ray_text gs ++ r)) = append_assoc (line (codes "unbounded") []) (point_text fs ++ ray_text gs) r ∙ ap (λ x. line (codes "unbounded") [] ++ x) (append_assoc (point_text fs) (ray_text gs) r) in
    subst (λ (x : List ℕ). Goes (verdict h ∷ ps) x ps r) (sym e)
    (goes_then (verdict h ∷ ps) _ (point h.base ∷ (ray h.base ∷ ps)) _ ps r
    (one_line (verdict h) ps (point h.base ∷ (ray h.base ∷ [])) (line (codes "unbounded") []) (point_text fs ++ (ray_text gs ++ r)) (line_is (codes "unbounded") [] refl tt) step)
    (goes_then (point h.base ∷ (ray h.base ∷ ps)) _ (ray h.base ∷ ps) _ ps r
    (point_goes (point h.base) (ray h.base ∷ ps) h.base fs (ray_text gs ++ r) ((fs, f.0, refl), refl))
    (one_line (ray h.base) ps [] (ray_text gs) r (line_is (codes "ray") (map fraction_text gs) refl (fractions_lack gs)) ((gs, f.1, refl), refl))))

abbrev PairFirst : ℕ → ℕ × ℕ → Type 0
PairFirst q p = IsNumber q p.0

abbrev PairSecond : ℕ → ℕ × ℕ → Type 0
PairSecond q p = IsNumber q p.1

pairs_go : (q : ℕ) (xs : List (ℕ × ℕ)) (ps : List Part) (r : List ℕ) → q ≤ 512 → All (PairFirst q) xs → All (PairSecond q) xs → Goes (pairs_before (length xs) q ps) (pairs_text xs ++ r) ps r
pairs_go q [] ps r l f s = (0, (refl, refl))
pairs_go q (x ∷ xs) ps r l f s =
    let i = All-head (PairFirst q) x xs f in
    let j = All-head (PairSecond q) x xs s in
    subst (λ (t : List ℕ). Goes (pairs_before (suc (length xs)) q ps) t ps r) (sym (append_assoc (pair_text x) (pairs_text xs) r))
    (goes_then (pairs_before (suc (length xs)) q ps) _ (pairs_before (length xs) q ps) _ ps r
    (one_line (pair q) (pairs_before (length xs) q ps) [] (pair_text x) (pairs_text xs ++ r) (line_is (codes "pair") (decimal x.0 ∷ (decimal x.1 ∷ [])) refl (count_lacks x.0 (omega (arith, i.1)), (count_lacks x.1 (omega (arith, j.1)), tt))) ((x, i, j, refl), refl))
    (pairs_go q xs ps r l (All-tail (PairFirst q) x xs f) (All-tail (PairSecond q) x xs s)))

links_go : (o : Option (List (ℕ × ℕ))) (b q p : ℕ) (r : List ℕ) → q ≤ 512 → ((xs : List (ℕ × ℕ)) → o ≡ Some xs → LinksFit q p xs) → Goes (behind_counts (is_second o) b q p) (links_text o ++ r) (verdict (head_of (is_second o) b q p) ∷ (last ∷ [])) r
links_go None b q p r l f = (0, (refl, refl))
links_go (Some xs) b q p r l f =
    let k = f xs refl in
    subst (λ (n : ℕ). Goes (pairs_before n q (verdict (head_of true b q p) ∷ (last ∷ []))) (pairs_text xs ++ r) (verdict (head_of true b q p) ∷ (last ∷ [])) r) k.count
    (pairs_go q xs (verdict (head_of true b q p) ∷ (last ∷ [])) r l k.first k.second)

pub version_line : (b : Bool) → IsLine (version_text b)
version_line false = line_of (codes "emp certificate 1") refl
version_line true = line_of (codes "emp certificate 2") refl

pub cert_goes : (c : Cert) → (take_through 10 (cert_text c) ≡ version_text (is_second c.links)) × Goes (counts (is_second c.links) ∷ []) (drop_through 10 (cert_text c)) [] []
cert_goes c =
    let b : Bool = is_second c.links in
    let h : Head = head_of b c.base c.quantities c.pairs in
    let few = c.counts in
    let v : List ℕ = verdict_text b c.verdict ++ codes "end\n" in
    let k = version_line b in (
      k.first_is _,
      subst (λ (t : List ℕ). Goes (counts b ∷ []) t [] []) (sym (k.rest_is _))
          (goes_then (counts b ∷ []) _ (behind_counts b c.base c.quantities c.pairs) _ [] []
          (subst (λ (x : List Part). Goes (counts b ∷ []) (counts_text c ++ (links_text c.links ++ v)) x (links_text c.links ++ v)) (append-nil (behind_counts b c.base c.quantities c.pairs))
          (one_line (counts b) [] (behind_counts b c.base c.quantities c.pairs) (counts_text c) (links_text c.links ++ v)
          (line_is (codes "rows") (decimal c.base ∷ (decimal c.quantities ∷ (decimal c.pairs ∷ []))) refl (count_lacks c.base (omega (arith, few.few_variables)), (count_lacks c.quantities (omega (arith, few.few_quantities)), (count_lacks c.pairs (omega (arith, few.few_pairs)), tt))))
          (c.base, c.quantities, c.pairs, few, refl, refl)))
          (goes_then (behind_counts b c.base c.quantities c.pairs) _ (verdict h ∷ (last ∷ [])) _ [] []
          (links_go c.links c.base c.quantities c.pairs v few.few_quantities c.linked)
          (goes_then (verdict h ∷ (last ∷ [])) _ (last ∷ []) _ [] []
          (verdict_goes h c.verdict (last ∷ []) (codes "end\n") few.few_pairs few.few_quantities c.fits)
          (one_line last [] [] (codes "end\n") [] (line_of (codes "end") refl) (refl, refl))))),
    )

-- ---- so it has no fault
pub same_version : (a b : Bool) → version_text a ≡ version_text b → a ≡ b
same_version false false e = refl
same_version true true e = refl
same_version false true e = absurd (omega (arith, ap (λ x. first (drop 16 x)) e))
same_version true false e = absurd (omega (arith, ap (λ x. first (drop 16 x)) e))

reached_ends : (c : Cert) (n : ℕ) (ps : List Part) (r : List ℕ) → Reaches (cert_text c) n ps r → (k : ℕ) × Ends k ps r
reached_ends c n ps r h =
    let g = cert_goes c in
    let s : h.second ≡ is_second c.links = same_version h.second (is_second c.links) (sym h.version ∙ g.0) in
    meets h.before g.1.0 (counts (is_second c.links) ∷ []) (drop_through 10 (cert_text c)) ps r (subst (λ (b : Bool). Runs h.before (counts b ∷ []) (drop_through 10 (cert_text c)) ps r) s h.runs) g.1.1

pub cert_fails : (c : Cert) (e : CertFault) → length (cert_text c) ≤ longest → ReadFails (cert_text c) e → (e ≡ NoMemory)
cert_fails c TooLong l h = absurd (omega (arith, l, h))
cert_fails c Version l h = absurd (h.1 (is_second c.links) (cert_goes c).0)
cert_fails c (Range n) l h = let e = reached_ends c n (h.1.part ∷ h.1.parts) h.1.rest h.1.reached in absurd (no_range e.0 h.1.part h.1.parts h.1.rest e.1 h.1.beyond)
cert_fails c (Syntax n) l h = let e = reached_ends c n h.1.parts h.1.rest h.1.reached in absurd (no_syntax e.0 h.1.parts h.1.rest (small_runs h.1.reached.before (counts h.1.reached.second ∷ []) (drop_through 10 (cert_text c)) h.1.parts h.1.rest (tt, tt) h.1.reached.runs) e.1 h.1.wrong)
cert_fails c NoMemory l h = refl

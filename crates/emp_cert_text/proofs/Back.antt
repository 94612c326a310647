-- A text that stands line by line to the end is that of a certificate.
use Rattle.std.proofs.Common.{◌≡◌, ◌⊎◌, inl, inr, ℕ, zero, suc, ◌+◌, Bool, true, false, nat_eq, List, [], ◌∷◌, ◌++◌, length, codes, Option, Some, None, refl, sym, ap, subst, ◌∙◌, append_assoc, append-nil, All}
use Rattle.std.specs.Io.BufRead.{take_through, drop_through}
use Rattle.std.proofs.lemmas.Bool.{cases_Bool, cond-true, cond-false}
use Rattle.std.proofs.lemmas.List.Elements.{All-nil, All-cons}
use Rattle.emp_num.specs.declared.frac.Frac.{Frac}
use Rattle.emp_rows.specs.Points.{IsNumber}
use Rattle.emp_cert.specs.Certs.{NodeFits, LinksFit, VerdictFits}
use Rattle.emp_cert.specs.Nodes.{AreTrees}
use Rattle.emp_cert.specs.declared.cert.Cert.{Cert}
use Rattle.emp_cert.specs.declared.cert.Verdict.{Verdict}
use Rattle.emp_cert.specs.declared.cert.Verdict.TheVariants.{Point, Missing, Best, Unbounded}
use Rattle.emp_cert.specs.declared.tree.Node.{Node}
use Rattle.emp_cert.specs.declared.tree.Node.TheVariants.{Branch, Farkas, Bound}
use Rattle.emp_cert_text.specs.Text.{node_text, nodes_text, point_text, ray_text, pair_text, pairs_text, sizes_text, links_text, is_second, version_text, verdict_text, cert_text}
use Rattle.emp_cert_text.specs.Course.{Head, head_of, Part, VerdictStands, Stands, Runs, Reaches, pairs_before, trees_before, behind_counts, behind_node}
use Rattle.emp_cert_text.specs.Course.Part.{counts, pair, verdict, point, ray, tree, last}
use Rattle.emp_cert_text.specs.Course.VerdictStands.{no_point, best_point, step, a_point}
use Rattle.emp_cert_text.proofs.Whole.{cert_goes}

abbrev pub Ends : ℕ → List Part → List ℕ → Type 0
Ends n ps t = Runs n ps t [] []

pub through_parts : (t : List ℕ) → t ≡ take_through 10 t ++ drop_through 10 t
through_parts [] = refl
through_parts (b ∷ bs) = go (cases_Bool (nat_eq b 10)) (through_parts bs)
  where
    go : (nat_eq b 10 ≡ true) ⊎ (nat_eq b 10 ≡ false) → bs ≡ take_through 10 bs ++ drop_through 10 bs → b ∷ bs ≡ take_through 10 (b ∷ bs) ++ drop_through 10 (b ∷ bs)
    go (inl e) r = rw (cond-true (nat_eq b 10) (b ∷ []) (b ∷ take_through 10 bs) e, cond-true (nat_eq b 10) bs (drop_through 10 bs) e) refl
    go (inr e) r = rw (cond-false (nat_eq b 10) (b ∷ []) (b ∷ take_through 10 bs) e, cond-false (nat_eq b 10) bs (drop_through 10 bs) e) (ap (λ x. b ∷ x) r)

-- one line, and what is to come behind it
record Taken (p : Part) (ps : List Part) (t : List ℕ) : Type 0 where
  behind : List Part
  line : List ℕ
  stands : Stands p line behind
  rest : List ℕ
  text : t ≡ line ++ rest
  steps : ℕ
  ends : Ends steps (behind ++ ps) rest

taken : (k : ℕ) (p : Part) (ps : List Part) (t : List ℕ) → Ends k (p ∷ ps) t → Taken p ps t
taken zero p ps t e = absurd (let f : ◌≡◌ {A = List Part} (p ∷ ps) [] = e.0 in cc)
taken (suc k) p ps t e = record { behind = e.0; line = take_through 10 t; stands = e.1; rest = drop_through 10 t; text = through_parts t; steps = k; ends = e.2 }

-- ---- pairs
record PairsBack (n q : ℕ) (ps : List Part) (t : List ℕ) : Type 0 where
  xs : List (ℕ × ℕ)
  fit : LinksFit q n xs
  rest : List ℕ
  text : t ≡ pairs_text xs ++ rest
  steps : ℕ
  ends : Ends steps ps rest

abbrev PairFirst : ℕ → ℕ × ℕ → Type 0
PairFirst q p = IsNumber q p.0

abbrev PairSecond : ℕ → ℕ × ℕ → Type 0
PairSecond q p = IsNumber q p.1

pairs_back : (k n q : ℕ) (ps : List Part) (t : List ℕ) → Ends k (pairs_before n q ps) t → PairsBack n q ps t
pairs_back k zero q ps t e = record { xs = []; fit = record { count = refl; first = All-nil (PairFirst q); second = All-nil (PairSecond q) }; rest = t; text = refl; steps = k; ends = e }
pairs_back k (suc n) q ps t e =
    let a = taken k (pair q) (pairs_before n q ps) t e in
    let x : ℕ × ℕ = a.stands.0.0 in
    let b = pairs_back a.steps n q ps a.rest (subst (λ (m : List Part). Ends a.steps (m ++ pairs_before n q ps) a.rest) a.stands.1 a.ends) in
    record {
      xs = x ∷ b.xs;
      fit = record { count = ap suc b.fit.count; first = All-cons (PairFirst q) x b.xs a.stands.0.1 b.fit.first; second = All-cons (PairSecond q) x b.xs a.stands.0.2 b.fit.second };
      rest = b.rest;
      text = a.text ∙ (ap (λ l. l ++ a.rest) a.stands.0.3 ∙ (ap (λ r. pair_text x ++ r) b.text ∙ sym (append_assoc (pair_text x) (pairs_text b.xs) b.rest)));
      steps = b.steps;
      ends = b.ends;
    }

-- ---- trees
record TreesBack (n : ℕ) (h : Head) (ps : List Part) (t : List ℕ) : Type 0 where
  ns : List Node
  fits : All (NodeFits h.pairs h.quantities) ns
  trees : AreTrees n ns
  rest : List ℕ
  text : t ≡ nodes_text h.second ns ++ rest
  steps : ℕ
  ends : Ends steps ps rest

one_more : (n m : ℕ) (h : Head) (ps : List Part) (t r : List ℕ) (x : Node) → NodeFits h.pairs h.quantities x → t ≡ node_text h.second x ++ r → ((ns : List Node) → AreTrees m ns → AreTrees n (x ∷ ns)) → TreesBack m h ps r → TreesBack n h ps t
one_more n m h ps t r x f e a b = record {
  ns = x ∷ b.ns;
  fits = All-cons (NodeFits h.pairs h.quantities) x b.ns f b.fits;
  trees = a b.ns b.trees;
  rest = b.rest;
  text = e ∙ (ap (λ z. node_text h.second x ++ z) b.text ∙ sym (append_assoc (node_text h.second x) (nodes_text h.second b.ns) b.rest));
  steps = b.steps;
  ends = b.ends;
}

trees_back : (k n : ℕ) (h : Head) (ps : List Part) (t : List ℕ) → Ends k (trees_before n h ps) t → TreesBack n h ps t
trees_back k zero h ps t e = record { ns = []; fits = All-nil (NodeFits h.pairs h.quantities); trees = tt; rest = t; text = refl; steps = k; ends = e }
trees_back zero (suc n) h ps t e = absurd (let f : ◌≡◌ {A = List Part} (tree h ∷ trees_before n h ps) [] = e.0 in cc)
trees_back (suc k) (suc n) h ps t e =
    go e.1.0 e.1.1 (through_parts t ∙ ap (λ l. l ++ drop_through 10 t) e.1.2) (subst (λ (m : List Part). Ends k (m ++ trees_before n h ps) (drop_through 10 t)) e.1.3 e.2) (λ m f. trees_back k m h ps (drop_through 10 t) f)
  where
    go : (x : Node) → NodeFits h.pairs h.quantities x → t ≡ node_text h.second x ++ drop_through 10 t → Ends k (behind_node h x ++ trees_before n h ps) (drop_through 10 t) → ((m : ℕ) → Ends k (trees_before m h ps) (drop_through 10 t) → TreesBack m h ps (drop_through 10 t)) → TreesBack (suc n) h ps t
    go (Branch i) f g e back = one_more (suc n) (suc (suc n)) h ps t (drop_through 10 t) (Branch i) f g (λ ns a. a) (back (suc (suc n)) e)
    go (Farkas fs) f g e back = one_more (suc n) n h ps t (drop_through 10 t) (Farkas fs) f g (λ ns a. a) (back n e)
    go (Bound w fs) f g e back = one_more (suc n) n h ps t (drop_through 10 t) (Bound w fs) f g (λ ns a. a) (back n e)

-- ---- verdicts
record PointBack (b : ℕ) (ps : List Part) (t : List ℕ) : Type 0 where
  fs : List Frac
  count : length fs ≡ b
  rest : List ℕ
  text : t ≡ point_text fs ++ rest
  steps : ℕ
  ends : Ends steps ps rest

point_back : (k b : ℕ) (ps : List Part) (t : List ℕ) → Ends k (point b ∷ ps) t → PointBack b ps t
point_back k b ps t e =
    let a = taken k (point b) ps t e in
    record { fs = a.stands.0.0; count = a.stands.0.1; rest = a.rest; text = a.text ∙ ap (λ l. l ++ a.rest) a.stands.0.2; steps = a.steps; ends = subst (λ (m : List Part). Ends a.steps (m ++ ps) a.rest) a.stands.1 a.ends }

record VerdictBack (h : Head) (ps : List Part) (t : List ℕ) : Type 0 where
  v : Verdict
  fits : VerdictFits h.base h.quantities h.pairs v
  rest : List ℕ
  text : t ≡ verdict_text h.second v ++ rest
  steps : ℕ
  ends : Ends steps ps rest

verdict_back : (h : Head) (ps : List Part) (l r : List ℕ) (qs : List Part) (k : ℕ) → VerdictStands h l qs → Ends k (qs ++ ps) r → VerdictBack h ps (l ++ r)
verdict_back h ps l r qs k no_point e =
    let b = trees_back k 1 h ps r e in
    record { v = Missing (record { nodes = b.ns; whole = b.trees }); fits = b.fits; rest = b.rest; text = ap (λ x. codes "none\n" ++ x) b.text ∙ sym (append_assoc (codes "none\n") (nodes_text h.second b.ns) b.rest); steps = b.steps; ends = b.ends }
verdict_back h ps l r qs k best_point e =
    let a = point_back k h.base (tree h ∷ ps) r e in
    let b = trees_back a.steps 1 h ps a.rest a.ends in
    record { v = Best a.fs (record { nodes = b.ns; whole = b.trees }); fits = (a.count, b.fits); rest = b.rest; text = ap (λ x. codes "best\n" ++ x) (a.text ∙ (ap (λ x. point_text a.fs ++ x) b.text ∙ sym (append_assoc (point_text a.fs) (nodes_text h.second b.ns) b.rest))) ∙ sym (append_assoc (codes "best\n") (point_text a.fs ++ nodes_text h.second b.ns) b.rest); steps = b.steps; ends = b.ends }
verdict_back h ps l r qs k step e =
    let a = point_back k h.base (ray h.base ∷ ps) r e in
    let b = taken a.steps (ray h.base) ps a.rest a.ends in
    let gs : List Frac = b.stands.0.0 in
    record { v = Unbounded a.fs gs; fits = (a.count, b.stands.0.1); rest = b.rest; text = ap (λ x. codes "unbounded\n" ++ x) (a.text ∙ (ap (λ x. point_text a.fs ++ x) (b.text ∙ ap (λ x. x ++ b.rest) b.stands.0.2) ∙ sym (append_assoc (point_text a.fs) (ray_text gs) b.rest))) ∙ sym (append_assoc (codes "unbounded\n") (point_text a.fs ++ ray_text gs) b.rest); steps = b.steps; ends = subst (λ (m : List Part). Ends b.steps (m ++ ps) b.rest) b.stands.1 b.ends }
verdict_back h ps l r qs k (a_point m f) e = record { v = Point f.0; fits = f.1; rest = r; text = ap (λ x. x ++ r) f.2; steps = k; ends = e }

-- ---- the links, a verdict and the last line
record TailBack (second : Bool) (b q p : ℕ) (t : List ℕ) : Type 0 where
  links : Option (List (ℕ × ℕ))
  version : is_second links ≡ second
  linked : (xs : List (ℕ × ℕ)) → links ≡ Some xs → LinksFit q p xs
  v : Verdict
  fits : VerdictFits b q p v
  text : t ≡ links_text links ++ (verdict_text second v ++ codes "end\n")

last_back : (k : ℕ) (t : List ℕ) → Ends k (last ∷ []) t → t ≡ codes "end\n"
last_back k t e =
    let a = taken k last [] t e in
    let f : Ends a.steps [] a.rest = subst (λ (m : List Part). Ends a.steps (m ++ []) a.rest) a.stands.1 a.ends in
    a.text ∙ (ap (λ x. x ++ a.rest) a.stands.0 ∙ ap (λ x. codes "end\n" ++ x) (none a.steps a.rest f))
  where
    none : (j : ℕ) (r : List ℕ) → Ends j [] r → r ≡ []
    none zero r f = f.1
    none (suc j) r f = absurd f

finish : (h : Head) (k : ℕ) (t : List ℕ) → Ends k (verdict h ∷ (last ∷ [])) t → (v : Verdict) × VerdictFits h.base h.quantities h.pairs v × (t ≡ verdict_text h.second v ++ codes "end\n")
finish h k t e =
    let a = taken k (verdict h) (last ∷ []) t e in
    let b = verdict_back h (last ∷ []) a.line a.rest a.behind a.steps a.stands a.ends in
    (b.v, b.fits, a.text ∙ (b.text ∙ ap (λ x. verdict_text h.second b.v ++ x) (last_back b.steps b.rest b.ends)))

inside : (xs ys : List (ℕ × ℕ)) → Some xs ≡ Some ys → xs ≡ ys
inside xs ys e = cc

tail_back : (second : Bool) (b q p k : ℕ) (t : List ℕ) → Ends k (behind_counts second b q p) t → TailBack second b q p t
tail_back false b q p k t e =
    let f = finish (head_of false b q p) k t e in
    record { links = None; version = refl; linked = λ xs g. absurd (let i : ◌≡◌ {A = Option (List (ℕ × ℕ))} None (Some xs) = g in cc); v = f.0; fits = f.1; text = f.2 }
tail_back true b q p k t e =
    let a = pairs_back k p q (verdict (head_of true b q p) ∷ (last ∷ [])) t e in
    let f = finish (head_of true b q p) a.steps a.rest a.ends in
    record { links = Some a.xs; version = refl; linked = λ xs g. subst (λ (ys : List (ℕ × ℕ)). LinksFit q p ys) (inside a.xs xs g) a.fit; v = f.0; fits = f.1; text = a.text ∙ ap (λ x. pairs_text a.xs ++ x) f.2 }

-- ---- the law
pub comes : (t : List ℕ) (n : ℕ) → Reaches t n [] [] → (c : Cert) × (cert_text c ≡ t)
comes t n h =
    let a = taken h.before (counts h.second) [] (drop_through 10 t) h.runs in
    let s = a.stands in
    let e : Ends a.steps (behind_counts h.second s.0 s.1 s.2) a.rest = subst (λ (m : List Part). Ends a.steps m a.rest) (append-nil a.behind ∙ s.5) a.ends in
    let b = tail_back h.second s.0 s.1 s.2 a.steps a.rest e in (
      record { base = s.0; quantities = s.1; pairs = s.2; links = b.links; verdict = b.v; counts = s.3; linked = b.linked; fits = b.fits },
      sym (through_parts t ∙ (ap (λ x. x ++ drop_through 10 t) (h.version ∙ ap version_text (sym b.version)) ∙ ap (λ x. version_text (is_second b.links) ++ x)
          (a.text ∙ (ap (λ x. x ++ a.rest) s.4 ∙ ap (λ x. sizes_text s.0 s.1 s.2 ++ x) (b.text ∙ ap (λ z. links_text b.links ++ (verdict_text z b.v ++ codes "end\n")) (sym b.version)))))),
    )

pub goes : (c : Cert) → (n : ℕ) × Reaches (cert_text c) n [] []
goes c = let g = cert_goes c in (g.1.0 + 2, record { second = is_second c.links; before = g.1.0; version = g.0; line = refl; runs = g.1.1 })

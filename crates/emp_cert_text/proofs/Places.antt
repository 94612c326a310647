-- Places in a text, and the lines before them.
use Rattle.std.proofs.Common.{◌≡◌, ◌≢◌, inl, inr, ℕ, zero, suc, ◌+◌, ◌-◌, ◌<◌, ◌≤◌, Bool, true, false, nat_eq, List, [], ◌∷◌, ◌++◌, length, take, drop, get_or, codes, arith, refl, sym, ap, subst, ◌∙◌, append_assoc, append-nil, length-drop}
use Rattle.std.specs.Io.BufRead.{take_through, drop_through}
use Rattle.std.specs.Bool.{Decides}
use Rattle.std.proofs.lemmas.Bool.{true≢false, cond-true, cond-false, eq-eqb}
use Rattle.std.proofs.Common.{ne_eqb}
use Rattle.std.proofs.lemmas.Int.{to_z-of_z}
use Rattle.std.proofs.lemmas.List.{drop_more, drop_all, take_more}
use Rattle.emp_cert.specs.declared.tree.Node.{Node}
use Rattle.emp_cert.specs.declared.tree.Node.TheVariants.{Branch, Farkas, Bound}
use Rattle.emp_cert_text.specs.Text.{version_text, node_text}
use Rattle.emp_cert_text.specs.Lines.{LineFails, SizesRight, SizesFit, PairRight, PairFits, PointRight, PointFits, RayRight, RayFits, NodeRight, NodeLineFits}
use Rattle.emp_cert_text.specs.Course.{Head, Part, VerdictStands, Stands, Right, Runs, TakesPoint, pairs_before, trees_before}
use Rattle.emp_cert_text.specs.Course.Part.{counts, pair, verdict, point, ray, tree, last}
use Rattle.emp_cert_text.specs.Course.VerdictStands.{no_point, best_point, step, a_point}
use Rattle.emp_cert_text.specs.Reading.{ReadFails, IsAt}
use Rattle.emp_cert_text.specs.Writing.{longest}
use Rattle.emp_cert_text.specs.declared.read.Spot.{Spot}
use Rattle.emp_cert_text.specs.declared.read.CertFault.TheVariants.{Range as RangeFault, Syntax as SyntaxFault}
use Rattle.emp_cert_text.specs.declared.lines.LineFault.{LineFault}
use Rattle.emp_cert_text.specs.declared.lines.LineFault.TheVariants.{Range, Syntax, NoMemory}

-- ---- lines
pub line_on : (t : List ℕ) (i : ℕ) → i < length t → get_or t i 0 ≢ 10 → take_through 10 t ≡ take i t ++ take_through 10 (drop i t) → take_through 10 t ≡ take (i + 1) t ++ take_through 10 (drop (i + 1) t)
line_on t i h n e =
    e
    ∙ (ap (λ s. take i t ++ take_through 10 s) (drop_more t i 0 h)
    ∙ (ap (λ s. take i t ++ s) (cond-false (nat_eq (get_or t i 0) 10) (get_or t i 0 ∷ []) (get_or t i 0 ∷ take_through 10 (drop (i + 1) t)) (ne_eqb (get_or t i 0) 10 n))
    ∙ (sym (append_assoc (take i t) (get_or t i 0 ∷ []) (take_through 10 (drop (i + 1) t))) ∙ ap (λ s. s ++ take_through 10 (drop (i + 1) t)) (sym (take_more t i 0 h)))))

pub after_on : (t : List ℕ) (i : ℕ) → i < length t → get_or t i 0 ≢ 10 → drop_through 10 t ≡ drop_through 10 (drop i t) → drop_through 10 t ≡ drop_through 10 (drop (i + 1) t)
after_on t i h n e = e ∙ (ap (drop_through 10) (drop_more t i 0 h) ∙ cond-false (nat_eq (get_or t i 0) 10) (drop (i + 1) t) (drop_through 10 (drop (i + 1) t)) (ne_eqb (get_or t i 0) 10 n))

pub line_stop : (t : List ℕ) (i : ℕ) → i < length t → get_or t i 0 ≡ 10 → take_through 10 t ≡ take i t ++ take_through 10 (drop i t) → take (i + 1) t ≡ take_through 10 t
line_stop t i h n e =
    sym (e ∙ (ap (λ s. take i t ++ take_through 10 s) (drop_more t i 0 h)
    ∙ (ap (λ s. take i t ++ s) (cond-true (nat_eq (get_or t i 0) 10) (get_or t i 0 ∷ []) (get_or t i 0 ∷ take_through 10 (drop (i + 1) t)) (eq-eqb (get_or t i 0) 10 n))
    ∙ sym (take_more t i 0 h))))

pub after_stop : (t : List ℕ) (i : ℕ) → i < length t → get_or t i 0 ≡ 10 → drop_through 10 t ≡ drop_through 10 (drop i t) → drop (i + 1) t ≡ drop_through 10 t
after_stop t i h n e = sym (e ∙ (ap (drop_through 10) (drop_more t i 0 h) ∙ cond-true (nat_eq (get_or t i 0) 10) (drop (i + 1) t) (drop_through 10 (drop (i + 1) t)) (eq-eqb (get_or t i 0) 10 n)))

pub line_all : (t : List ℕ) (i : ℕ) → length t ≤ i → take_through 10 t ≡ take i t ++ take_through 10 (drop i t) → take i t ≡ take_through 10 t
line_all t i h e = sym (e ∙ (ap (λ s. take i t ++ take_through 10 s) (drop_all i t h) ∙ append-nil (take i t)))

pub after_all : (t : List ℕ) (i : ℕ) → length t ≤ i → drop_through 10 t ≡ drop_through 10 (drop i t) → drop i t ≡ drop_through 10 t
after_all t i h e = drop_all i t h ∙ sym (e ∙ ap (drop_through 10) (drop_all i t h))

pub ruleset ending = (line_on, after_on, line_stop, after_stop, line_all, after_all)

-- ---- one line more
pub runs_more : (n : ℕ) (ps : List Part) (t : List ℕ) (q : Part) (qs ms : List Part) (r : List ℕ) → Runs n ps t (q ∷ qs) r → Stands q (take_through 10 r) ms → Runs (suc n) ps t (ms ++ qs) (drop_through 10 r)
runs_more zero ps t q qs ms r h s = subst (λ (x : List Part). Runs 1 x t (ms ++ qs) (drop_through 10 r)) (sym h.0) (subst (λ (x : List ℕ). Runs 1 (q ∷ qs) x (ms ++ qs) (drop_through 10 r)) (sym h.1) (ms, s, (refl, refl)))
runs_more (suc n) [] t q qs ms r h s = absurd h
runs_more (suc n) (p ∷ ps) t q qs ms r h s = (h.0, h.1, runs_more n (h.0 ++ ps) (drop_through 10 t) q qs ms r h.2 s)

pub stands_some : (p : Part) (l : List ℕ) (qs : List Part) → Stands p l qs → 0 < length l
stands_some (counts b) l qs h = omega (arith, ap length h.4)
stands_some (pair q) l qs h = omega (arith, ap length h.0.3)
stands_some (verdict h) l qs no_point = omega arith
stands_some (verdict h) l qs best_point = omega arith
stands_some (verdict h) l qs step = omega arith
stands_some (verdict h) l qs (a_point m f) = omega (arith, ap length f.2)
stands_some (point b) l qs h = omega (arith, ap length h.0.2)
stands_some (ray b) l qs h = omega (arith, ap length h.0.2)
stands_some (tree h) l qs k = go k.0 k.2
  where
    go : (n : Node) → l ≡ node_text h.second n → 0 < length l
    go (Branch i) e = omega (arith, ap length e)
    go (Farkas fs) e = omega (arith, ap length e)
    go (Bound w fs) e = omega (arith, ap length e)
stands_some last l qs h = omega (arith, ap length h.0)

pub goes_on : (t line : List ℕ) (s r : Spot) (p : Part) (ps qs : List Part) → r.at ≡ s.at + length line → r.line ≡ s.line + 1 → IsAt t (p ∷ ps) s → line ≡ take_through 10 (drop s.at t) → drop (s.at + length line) t ≡ drop_through 10 (drop s.at t) → Stands p line qs → IsAt t (qs ++ ps) r
goes_on t line s r p ps qs ea el h e f st =
    let k = h.reached in
    let some : 0 < length line = stands_some p line qs st in
    let rest : drop r.at t ≡ drop_through 10 (drop s.at t) = ap (λ i. drop i t) ea ∙ f in
    record {
      few = omega (arith, h.few, ea, el, some);
      reached = record {
        second = k.second;
        before = suc k.before;
        version = k.version;
        line = omega (arith, k.line, el);
        runs = subst (λ (x : List ℕ). Runs (suc k.before) (counts k.second ∷ []) (drop_through 10 t) (qs ++ ps) x) (sym rest) (runs_more k.before (counts k.second ∷ []) (drop_through 10 t) p ps qs (drop s.at t) k.runs (subst (λ (x : List ℕ). Stands p x qs) e st));
      };
    }

pub at_range : (t : List ℕ) (s : Spot) (p : Part) (ps : List Part) → length t ≤ longest → IsAt t (p ∷ ps) s → LineFails (Right p (take_through 10 (drop s.at t))) ((qs : List Part) × Stands p (take_through 10 (drop s.at t)) qs) Range → ReadFails t (RangeFault s.line)
at_range t s p ps l h f = (l, record { part = p; parts = ps; rest = drop s.at t; reached = h.reached; right = f.0; beyond = λ qs g. f.1 (qs, g) })

pub at_syntax : (t : List ℕ) (s : Spot) (p : Part) (ps : List Part) → length t ≤ longest → IsAt t (p ∷ ps) s → LineFails (Right p (take_through 10 (drop s.at t))) ((qs : List Part) × Stands p (take_through 10 (drop s.at t)) qs) Syntax → ReadFails t (SyntaxFault s.line)
at_syntax t s p ps l h f = (l, record { parts = p ∷ ps; rest = drop s.at t; reached = h.reached; wrong = f })

-- ---- what a line's reader tells, for the part that was to come
abbrev pub PartFails : Part → List ℕ → LineFault → Type 0
PartFails p l e = LineFails (Right p l) ((qs : List Part) × Stands p l qs) e

pub fails_map : (R F G : Type 0) (e : LineFault) → (G → F) → LineFails R F e → LineFails R G e
fails_map R F G Range f h = (h.0, λ g. h.1 (f g))
fails_map R F G Syntax f h = h
fails_map R F G NoMemory f h = tt

pub counts_fail : (second : Bool) (l m : List ℕ) (e : LineFault) → l ≡ m → LineFails (SizesRight l) (SizesFit l) e → PartFails (counts second) m e
counts_fail second l m e f h = subst (λ (x : List ℕ). PartFails (counts second) x e) f (fails_map (SizesRight l) (SizesFit l) ((qs : List Part) × Stands (counts second) l qs) e (λ g. (g.1.0, g.1.1, g.1.2, g.1.3, g.1.4)) h)

pub pair_fail : (q : ℕ) (l m : List ℕ) (e : LineFault) → l ≡ m → LineFails (PairRight l) (PairFits q l) e → PartFails (pair q) m e
pair_fail q l m e f h = subst (λ (x : List ℕ). PartFails (pair q) x e) f (fails_map (PairRight l) (PairFits q l) ((qs : List Part) × Stands (pair q) l qs) e (λ g. g.1.0) h)

pub ray_fail : (b : ℕ) (l m : List ℕ) (e : LineFault) → l ≡ m → LineFails (RayRight b l) (RayFits b l) e → PartFails (ray b) m e
ray_fail b l m e f h = subst (λ (x : List ℕ). PartFails (ray b) x e) f (fails_map (RayRight b l) (RayFits b l) ((qs : List Part) × Stands (ray b) l qs) e (λ g. g.1.0) h)

pub tree_fail : (h : Head) (l m : List ℕ) (e : LineFault) → l ≡ m → LineFails (NodeRight h.second h.quantities l) (NodeLineFits h.second h.pairs h.quantities l) e → PartFails (tree h) m e
tree_fail h l m e f k = subst (λ (x : List ℕ). PartFails (tree h) x e) f (fails_map (NodeRight h.second h.quantities l) (NodeLineFits h.second h.pairs h.quantities l) ((qs : List Part) × Stands (tree h) l qs) e (λ g. (g.1.0, g.1.1, g.1.2)) k)

pub point_takes : (b : ℕ) (l : List ℕ) → TakesPoint b (point b) l
point_takes b l = record { right = λ h. h; from_right = λ h. h; stands = λ h. (h, refl); from_stands = λ qs h. h.0 }

pub verdict_takes : (h : Head) (l : List ℕ) → l ≢ codes "none\n" → l ≢ codes "best\n" → l ≢ codes "unbounded\n" → TakesPoint h.base (verdict h) l
verdict_takes h l a b c = record { right = right; from_right = λ k. inr (inr (inr k)); stands = λ k. a_point l k; from_stands = λ qs k. fits l qs k a b c }
  where
    right : Right (verdict h) l → PointRight h.base l
    right (inl e) = absurd (a e)
    right (inr (inl e)) = absurd (b e)
    right (inr (inr (inl e))) = absurd (c e)
    right (inr (inr (inr k))) = k

    fits : (m : List ℕ) (qs : List Part) → VerdictStands h m qs → m ≢ codes "none\n" → m ≢ codes "best\n" → m ≢ codes "unbounded\n" → PointFits h.base m
    fits m qs no_point x y z = absurd (x refl)
    fits m qs best_point x y z = absurd (y refl)
    fits m qs step x y z = absurd (z refl)
    fits m qs (a_point n k) x y z = k

pub point_fail : (b : ℕ) (p : Part) (l m : List ℕ) (e : LineFault) → l ≡ m → TakesPoint b p m → LineFails (PointRight b l) (PointFits b l) e → PartFails p m e
point_fail b p l m e f t h = go e (subst (λ (x : List ℕ). LineFails (PointRight b x) (PointFits b x) e) f h)
  where
    go : (e : LineFault) → LineFails (PointRight b m) (PointFits b m) e → PartFails p m e
    go Range k = (t.from_right k.0, λ g. k.1 (t.from_stands g.0 g.1))
    go Syntax k = λ r. k (t.right r)
    go NoMemory k = tt

pub ruleset failing = (to_z-of_z, at_range, at_syntax)

pub ruleset going = (to_z-of_z, goes_on)

-- ---- pairs and trees that are still to come
pub pairs_next : (t : List ℕ) (count done q : ℕ) (ps : List Part) (s : Spot) → done < count → IsAt t (pairs_before (count - done) q ps) s → IsAt t (pair q ∷ pairs_before (count - (done + 1)) q ps) s
pairs_next t count done q ps s l h =
    let e : count - done ≡ suc (count - (done + 1)) = omega arith in
    subst (λ (n : ℕ). IsAt t (pairs_before n q ps) s) e h

pub pairs_all : (t : List ℕ) (count done q : ℕ) (ps : List Part) (s : Spot) → count ≤ done → IsAt t (pairs_before (count - done) q ps) s → IsAt t ps s
pairs_all t count done q ps s l h =
    let e : count - done ≡ 0 = omega arith in
    subst (λ (n : ℕ). IsAt t (pairs_before n q ps) s) e h

pub pairs_none : (t : List ℕ) (count q : ℕ) (ps : List Part) (s : Spot) → IsAt t (pairs_before count q ps) s → IsAt t (pairs_before (count - 0) q ps) s
pairs_none t count q ps s h =
    let e : count ≡ count - 0 = omega arith in
    subst (λ (n : ℕ). IsAt t (pairs_before n q ps) s) e h

pub trees_next : (t : List ℕ) (n : ℕ) (h : Head) (ps : List Part) (s : Spot) → 0 < n → IsAt t (trees_before n h ps) s → IsAt t (tree h ∷ trees_before (n - 1) h ps) s
trees_next t zero h ps s l k = absurd (omega arith)
trees_next t (suc n) h ps s l k = let e : n ≡ suc n - 1 = omega arith in subst (λ (m : ℕ). IsAt t (tree h ∷ trees_before m h ps) s) e k

pub trees_all : (t : List ℕ) (n : ℕ) (h : Head) (ps : List Part) (s : Spot) → n ≤ 0 → IsAt t (trees_before n h ps) s → IsAt t ps s
trees_all t zero h ps s l k = k
trees_all t (suc n) h ps s l k = absurd (omega arith)

pub trees_branch : (n m : ℕ) (h : Head) (ps : List Part) → 0 < n → m ≡ n + 1 → tree h ∷ (tree h ∷ trees_before (n - 1) h ps) ≡ trees_before m h ps
trees_branch n m h ps l e = let f : m ≡ suc (suc (n - 1)) = omega arith in sym (ap (λ k. trees_before k h ps) f)

pub node_some : (second : Bool) (n : Node) (l : List ℕ) → l ≡ node_text second n → 0 < length l
node_some second (Branch i) l e = omega (arith, ap length e)
node_some second (Farkas fs) l e = omega (arith, ap length e)
node_some second (Bound w fs) l e = omega (arith, ap length e)

pub ruleset treeing = (to_z-of_z, trees_branch)

-- ---- the last line
pub last_fails : (l m : List ℕ) (b : Bool) → l ≡ m → Decides b (l ≡ codes "end\n") → b ≡ false → PartFails last m Syntax
last_fails l m b e d n = λ r. true≢false (sym (d.1 (e ∙ r)) ∙ n)

pub rest_is_left : (t : List ℕ) (s : Spot) → length t ≤ longest → s.at < length t → IsAt t [] s → ReadFails t (SyntaxFault s.line)
rest_is_left t s l m h = (l, record { parts = []; rest = drop s.at t; reached = h.reached; wrong = λ e. absurd (let n : length (drop s.at t) ≡ 0 = ap length e in omega (arith, length-drop s.at t)) })

pub first_place : (t : List ℕ) (b : Bool) (s : Spot) → s.at ≡ 18 → s.line ≡ 2 → take_through 10 t ≡ version_text b → drop 18 t ≡ drop_through 10 t → IsAt t (counts b ∷ []) s
first_place t b s ea el e f = record {
  few = omega (arith, ea, el);
  reached = record { second = b; before = 0; version = e; line = el; runs = (refl, sym (ap (λ i. drop i t) ea ∙ f)) };
}

pub no_version : (t l : List ℕ) (p q : Bool) → length t ≤ longest → l ≡ take_through 10 (drop 0 t) → Decides p (l ≡ codes "emp certificate 1\n") → Decides q (l ≡ codes "emp certificate 2\n") → p ≡ false → q ≡ false → (length t ≤ longest) × ((second : Bool) → take_through 10 t ≡ version_text second → ⊥)
no_version t l p q s e f g h k = (s, go)
  where
    go : (second : Bool) → take_through 10 t ≡ version_text second → ⊥
    go false v = true≢false (sym (f.1 (e ∙ v)) ∙ h)
    go true v = true≢false (sym (g.1 (e ∙ v)) ∙ k)

-- ---- a verdict's first line
pub stands_none : (h : Head) (l : List ℕ) → l ≡ codes "none\n" → Stands (verdict h) l (tree h ∷ [])
stands_none h l e = subst (λ (x : List ℕ). VerdictStands h x (tree h ∷ [])) (sym e) no_point

pub stands_best : (h : Head) (l : List ℕ) → l ≡ codes "best\n" → Stands (verdict h) l (point h.base ∷ (tree h ∷ []))
stands_best h l e = subst (λ (x : List ℕ). VerdictStands h x (point h.base ∷ (tree h ∷ []))) (sym e) best_point

pub stands_step : (h : Head) (l : List ℕ) → l ≡ codes "unbounded\n" → Stands (verdict h) l (point h.base ∷ (ray h.base ∷ []))
stands_step h l e = subst (λ (x : List ℕ). VerdictStands h x (point h.base ∷ (ray h.base ∷ []))) (sym e) step

pub is_not : (l m w : List ℕ) (b : Bool) → l ≡ m → Decides b (l ≡ w) → b ≡ false → m ≢ w
is_not l m w b e d n f = true≢false (sym (d.1 (e ∙ f)) ∙ n)

pub at_nil : (t : List ℕ) (ps : List Part) (s : Spot) → IsAt t (ps ++ []) s → IsAt t ps s
at_nil t ps s h = subst (λ (x : List Part). IsAt t x s) (append-nil ps) h

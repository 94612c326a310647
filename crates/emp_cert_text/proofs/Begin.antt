-- Lines that stand in their places are the first lines of a certificate.
use Rattle.std.proofs.Common.{◌≡◌, ℕ, zero, suc, ◌+◌, Bool, true, false, ℤ, pos, List, [], ◌∷◌, ◌++◌, map, length, decimal, codes, arith, refl, sym, ap, subst, ◌∙◌, append_assoc, All}
use Rattle.std.specs.Io.BufRead.{take_through, drop_through}
use Rattle.std.proofs.lemmas.Int.{ints}
use Rattle.std.proofs.lemmas.List.Elements.{All-nil, All-cons}
use Rattle.emp_num.specs.Exact.{IsNarrow}
use Rattle.emp_numeral.specs.FracText.{fraction_text}
use Rattle.emp_num.specs.Whole.{whole}
use Rattle.emp_num.specs.declared.frac.Frac.{Frac}
use Rattle.emp_cert.specs.Certs.{Counts}
use Rattle.emp_cert.specs.declared.tree.Node.TheVariants.{Farkas}
use Rattle.emp_cert_text.specs.Text.{node_text, point_text, ray_text, pair_text, sizes_text, version_text}
use Rattle.emp_cert_text.specs.Course.{Head, head_of, Part, VerdictStands, Stands, Runs, Reaches, behind_counts}
use Rattle.emp_cert_text.specs.Course.Part.{counts, pair, verdict, point, ray, tree, last}
use Rattle.emp_cert_text.specs.Course.VerdictStands.{no_point, best_point, step, a_point}
use Rattle.emp_cert_text.specs.Laws.{AllCanStand, Begins}
use Rattle.emp_cert_text.proofs.Whole.{IsLine, line_of, line_is, count_lacks, fractions_lack, node_line, version_line, Small, AllSmall, small_append, small_on, small_runs, Goes, one_line, goes_then}
use Rattle.emp_cert_text.proofs.Same.{pair_line, point_line}
use Rattle.emp_cert_text.proofs.Back.{through_parts, comes}

-- ---- lines
ray_line : (fs : List Frac) → IsLine (ray_text fs)
ray_line fs = line_is (codes "ray") (map fraction_text fs) refl (fractions_lack fs)

verdict_line : (h : Head) (l : List ℕ) (ms : List Part) → VerdictStands h l ms → IsLine l
verdict_line h l ms no_point = line_of (codes "none") refl
verdict_line h l ms best_point = line_of (codes "best") refl
verdict_line h l ms step = line_of (codes "unbounded") refl
verdict_line h l ms (a_point m f) = subst (λ (x : List ℕ). IsLine x) (sym f.2) (point_line f.0)

stand_line : (p : Part) (l : List ℕ) (ms : List Part) → Small p → Stands p l ms → IsLine l
stand_line (counts second) l ms s h = subst (λ (x : List ℕ). IsLine x) (sym h.4) (line_is (codes "rows") (decimal h.0 ∷ (decimal h.1 ∷ (decimal h.2 ∷ []))) refl (count_lacks h.0 (omega (arith, h.3.few_variables)), (count_lacks h.1 (omega (arith, h.3.few_quantities)), (count_lacks h.2 (omega (arith, h.3.few_pairs)), tt))))
stand_line (pair q) l ms s h = subst (λ (x : List ℕ). IsLine x) (sym h.0.3) (pair_line q h.0.0 s h.0.1 h.0.2)
stand_line (verdict x) l ms s h = verdict_line x l ms h
stand_line (point b) l ms s h = subst (λ (x : List ℕ). IsLine x) (sym h.0.2) (point_line h.0.0)
stand_line (ray b) l ms s h = subst (λ (x : List ℕ). IsLine x) (sym h.0.2) (ray_line h.0.0)
stand_line (tree x) l ms s h = subst (λ (y : List ℕ). IsLine y) (sym h.2) (node_line x.second x.pairs x.quantities h.0 s.1 s.0 h.1)
stand_line last l ms s h = subst (λ (x : List ℕ). IsLine x) (sym h.0) (line_of (codes "end") refl)

-- ---- what was read stands before any other rest too
record Front (n : ℕ) (ps : List Part) (t : List ℕ) (qs : List Part) (r : List ℕ) : Type 0 where
  front : List ℕ
  here : t ≡ front ++ r
  there : (s : List ℕ) → Runs n ps (front ++ s) qs s

front_of : (n : ℕ) (ps : List Part) (t : List ℕ) (qs : List Part) (r : List ℕ) → AllSmall ps → Runs n ps t qs r → Front n ps t qs r
front_of zero ps t qs r s h = record { front = []; here = h.1; there = λ x. (h.0, refl) }
front_of (suc n) [] t qs r s h = absurd h
front_of (suc n) (p ∷ ps) t qs r s h =
    let l : List ℕ = take_through 10 t in
    let k : IsLine l = stand_line p l h.0 s.0 h.1 in
    let f = front_of n (h.0 ++ ps) (drop_through 10 t) qs r (small_append h.0 ps (small_on p l h.0 s.0 h.1) s.1) h.2 in
    record {
      front = l ++ f.front;
      here = through_parts t ∙ (ap (λ x. l ++ x) f.here ∙ sym (append_assoc l f.front r));
      there = λ x. subst (λ (y : List ℕ). Runs (suc n) (p ∷ ps) y qs x) (sym (append_assoc l f.front x))
          (h.0, subst (λ (y : List ℕ). Stands p y h.0) (sym (k.first_is (f.front ++ x))) h.1, subst (λ (y : List ℕ). Runs n (h.0 ++ ps) y qs x) (sym (k.rest_is (f.front ++ x))) (f.there x));
    }

-- ---- some line for each part
zeros : ℕ → List Frac
zeros zero = []
zeros (suc n) = whole 0 ∷ zeros n

length-zeros : (n : ℕ) → length (zeros n) ≡ n
unfolding zeros
length-zeros zero = refl
length-zeros (suc n) = ap suc (length-zeros n)

none : ℕ → List ℤ
none zero = []
none (suc n) = pos 0 ∷ none n

length-none : (n : ℕ) → length (none n) ≡ n
unfolding none
length-none zero = refl
length-none (suc n) = ap suc (length-none n)

none_narrow : (n : ℕ) → All IsNarrow (none n)
unfolding none
none_narrow zero = All-nil IsNarrow
none_narrow (suc n) = All-cons IsNarrow (pos 0) (none n) (omega (arith, ints)) (none_narrow n)

some_line : (p : Part) (ps : List Part) (l s : List ℕ) → Small p → Stands p l [] → Goes ps s [] [] → Goes (p ∷ ps) (l ++ s) [] []
some_line p ps l s m h g = goes_then (p ∷ ps) (l ++ s) ps s [] [] (one_line p ps [] l s (stand_line p l [] m h) h) g

abbrev Completed : List Part → Type 0
Completed ps = (s : List ℕ) × Goes ps s [] []

a_line : (p : Part) (ps : List Part) (l : List ℕ) → Small p → Stands p l [] → Completed ps → Completed (p ∷ ps)
a_line p ps l m h c = (l ++ c.0, some_line p ps l c.0 m h c.1)

completes : (ps : List Part) → AllSmall ps → AllCanStand ps → Completed ps
completes [] m c = ([], (0, (refl, refl)))
completes (counts second ∷ ps) m c =
    let few : Counts 0 0 0 = record { few_variables = omega arith; few_quantities = omega arith; few_pairs = omega arith } in
    let h : Head = head_of second 0 0 0 in
    let k = a_line (verdict h) (last ∷ ps) (point_text []) (omega arith, omega arith) (a_point (point_text []) ([], refl, refl)) (a_line last ps (codes "end\n") tt (refl, refl) (completes ps m.1 c.1)) in
    let e : behind_counts second 0 0 0 ++ ps ≡ verdict h ∷ (last ∷ ps) = go second in
    let st : Stands (counts second) (sizes_text 0 0 0) (behind_counts second 0 0 0) = (0, 0, 0, few, refl, refl) in
    (sizes_text 0 0 0 ++ k.0, goes_then (counts second ∷ ps) _ (behind_counts second 0 0 0 ++ ps) k.0 [] [] (one_line (counts second) ps (behind_counts second 0 0 0) (sizes_text 0 0 0) k.0 (stand_line (counts second) (sizes_text 0 0 0) (behind_counts second 0 0 0) tt st) st) (subst (λ (x : List Part). Goes x k.0 [] []) (sym e) k.1))
  where
    go : (b : Bool) → behind_counts b 0 0 0 ++ ps ≡ verdict (head_of b 0 0 0) ∷ (last ∷ ps)
    go false = refl
    go true = refl
completes (pair q ∷ ps) m c = a_line (pair q) ps (pair_text (1, 1)) m.0 (((1, 1), (omega arith, c.0), (omega arith, c.0), refl), refl) (completes ps m.1 c.1)
completes (verdict h ∷ ps) m c = a_line (verdict h) ps (point_text (zeros h.base)) m.0 (a_point (point_text (zeros h.base)) (zeros h.base, length-zeros h.base, refl)) (completes ps m.1 c.1)
completes (point b ∷ ps) m c = a_line (point b) ps (point_text (zeros b)) tt ((zeros b, length-zeros b, refl), refl) (completes ps m.1 c.1)
completes (ray b ∷ ps) m c = a_line (ray b) ps (ray_text (zeros b)) tt ((zeros b, length-zeros b, refl), refl) (completes ps m.1 c.1)
completes (tree h ∷ ps) m c = a_line (tree h) ps (node_text h.second (Farkas (none h.quantities))) m.0 (Farkas (none h.quantities), (length-none h.quantities, none_narrow h.quantities), refl, refl) (completes ps m.1 c.1)
completes (last ∷ ps) m c = a_line last ps (codes "end\n") tt (refl, refl) (completes ps m.1 c.1)

-- ---- the law
pub begins : (t : List ℕ) (n : ℕ) (ps : List Part) (r : List ℕ) → Reaches t n ps r → AllCanStand ps → Begins t r
begins t n ps r h c =
    let start : List Part = counts h.second ∷ [] in
    let v : List ℕ = version_text h.second in
    let f = front_of h.before start (drop_through 10 t) ps r (tt, tt) h.runs in
    let k = completes ps (small_runs h.before start (drop_through 10 t) ps r (tt, tt) h.runs) c in
    let g = goes_then start (f.front ++ k.0) ps k.0 [] [] (h.before, f.there k.0) k.1 in
    let x : List ℕ = v ++ (f.front ++ k.0) in
    let i = version_line h.second in
    let end : Reaches x (g.0 + 2) [] [] = record { second = h.second; before = g.0; version = i.first_is (f.front ++ k.0); line = refl; runs = subst (λ (y : List ℕ). Runs g.0 start y [] []) (sym (i.rest_is (f.front ++ k.0))) g.1 } in
    let d = comes x (g.0 + 2) end in
    record {
      cert = d.0;
      front = v ++ f.front;
      back = k.0;
      here = through_parts t ∙ (ap (λ y. y ++ drop_through 10 t) h.version ∙ (ap (λ y. v ++ y) f.here ∙ sym (append_assoc v f.front r)));
      there = d.1 ∙ sym (append_assoc v f.front k.0);
    }

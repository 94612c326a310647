-- What is kept while a text is read.
use Rattle.std.proofs.Common.{◌≡◌, ℕ, zero, suc, ◌+◌, ◌-◌, ◌<◌, ◌≤◌, Bool, ℤ, List, [], ◌∷◌, ◌++◌, length, drop, set, codes, arith, refl, sym, ap, ◌∙◌, append_assoc, append-nil, length-append, length-set, length-drop, All, subst}
use Rattle.std.specs.List.{slice_range}
use Rattle.std.proofs.lemmas.Int.{to_z-of_z}
use Rattle.std.proofs.lemmas.List.{length-take-le}
use Rattle.std.proofs.lemmas.List.Folds.{drop_split}
use Rattle.std.proofs.lemmas.List.Elements.{All-nil, All-cons, All-append, All-set}
use Rattle.emp_num.specs.Exact.{IsNarrow}
use Rattle.emp_num.specs.Whole.{zero_below_limit}
use Rattle.emp_num.specs.declared.frac.Frac.{Frac}
use Rattle.emp_rows.specs.Points.{IsNumber}
use Rattle.emp_rows.proofs.Joint.{narrow_more, narrow_none}
use Rattle.emp_cert.specs.declared.cert.Cert.{Cert}
use Rattle.emp_cert.specs.declared.tree.Node.{Node}
use Rattle.emp_cert.specs.declared.tree.Node.TheVariants.{Branch, Farkas, Bound}
use Rattle.emp_cert.specs.Certs.{NodeFits, Counts}
use Rattle.emp_cert.specs.Nodes.{AreTrees}
use Rattle.emp_cert_text.specs.Text.{node_text, nodes_text, pair_text, pairs_text, version_text, counts_text, links_text, is_second, verdict_text, cert_text}
use Rattle.emp_cert_text.specs.Writing.{HasFew}
use Rattle.emp_cert_text.proofs.Joining.{few_node}

pub length_more : (out : List ℤ) (n : ℤ) → length (out ++ n ∷ []) ≡ length out + 1
length_more out n = length-append out (n ∷ [])

pub length_fracs : (out : List Frac) (f : Frac) → length (out ++ f ∷ []) ≡ length out + 1
length_fracs out f = length-append out (f ∷ [])

pub narrow_set : (out : List ℤ) (k : ℕ) (n : ℤ) → All IsNarrow out → IsNarrow n → All IsNarrow (set out k n)
narrow_set out k n h m = All-set IsNarrow out k n m h

pub length_set : (out : List ℤ) (k : ℕ) (n : ℤ) → length (set out k n) ≡ length out
length_set out k n = length-set out k n

pub ruleset pushing = (to_z-of_z, narrow_more, narrow_none, zero_below_limit, length_more, length_fracs, narrow_set, length_set)

pub few_of : (base quantities pairs : ℕ) (n : Node) → Counts base quantities pairs → NodeFits pairs quantities n → HasFew n
few_of base quantities pairs n c h = few_node pairs quantities n c.few_quantities h

pub ruleset noding = (to_z-of_z, few_of)

-- ---- lines of a text
pub record IsLine (t : List ℕ) (from : ℕ) (l : List ℕ) : Type 0 where
  pub rest : drop from t ≡ l ++ drop (from + length l) t
  pub within : from + length l ≤ length t

pub line_is : (t : List ℕ) (from end : ℕ) (l : List ℕ) → from ≤ end → end ≤ length t → l ≡ slice_range t from end → IsLine t from l
line_is t from end l h k e =
    let n : length l ≡ end - from = ap length e ∙ length-take-le (end - from) (drop from t) (omega (arith, length-drop from t)) in
    let m : end ≡ from + length l = omega arith in
    record {
      rest = drop_split t from end h ∙ (ap (λ x. x ++ drop end t) (sym e) ∙ ap (λ i. l ++ drop i t) m);
      within = omega arith;
    }

pub ruleset lining = (to_z-of_z)

-- ---- parts that follow one another
-- a part, and then another
pub two_parts : (whole a b mid rest : List ℕ) → whole ≡ a ++ mid → mid ≡ b ++ rest → whole ≡ (a ++ b) ++ rest
two_parts whole a b mid rest e f = e ∙ (ap (λ x. a ++ x) f ∙ sym (append_assoc a b rest))

pub ruleset parting = (to_z-of_z, two_parts)

pairs-append : (ps qs : List (ℕ × ℕ)) → pairs_text (ps ++ qs) ≡ pairs_text ps ++ pairs_text qs
pairs-append [] qs = refl
pairs-append (p ∷ ps) qs = ap (λ x. pair_text p ++ x) (pairs-append ps qs) ∙ sym (append_assoc (pair_text p) (pairs_text ps) (pairs_text qs))

pub pairs_step : (whole mid rest : List ℕ) (out new : List (ℕ × ℕ)) (p : ℕ × ℕ) → new ≡ out ++ p ∷ [] → whole ≡ pairs_text out ++ mid → mid ≡ pair_text p ++ rest → whole ≡ pairs_text new ++ rest
pairs_step whole mid rest out new p n e f =
    two_parts whole (pairs_text out) (pair_text p) mid rest e f ∙ ap (λ x. x ++ rest) (ap (λ x. pairs_text out ++ x) (sym (append-nil (pair_text p))) ∙ (sym (pairs-append out (p ∷ [])) ∙ ap pairs_text (sym n)))

nodes-append : (second : Bool) (ps qs : List Node) → nodes_text second (ps ++ qs) ≡ nodes_text second ps ++ nodes_text second qs
nodes-append second [] qs = refl
nodes-append second (p ∷ ps) qs = ap (λ x. node_text second p ++ x) (nodes-append second ps qs) ∙ sym (append_assoc (node_text second p) (nodes_text second ps) (nodes_text second qs))

pub nodes_step : (second : Bool) (whole mid rest : List ℕ) (out new : List Node) (p : Node) → new ≡ out ++ p ∷ [] → whole ≡ nodes_text second out ++ mid → mid ≡ node_text second p ++ rest → whole ≡ nodes_text second new ++ rest
nodes_step second whole mid rest out new p n e f =
    two_parts whole (nodes_text second out) (node_text second p) mid rest e f ∙ ap (λ x. x ++ rest) (ap (λ x. nodes_text second out ++ x) (sym (append-nil (node_text second p))) ∙ (sym (nodes-append second out (p ∷ [])) ∙ ap (nodes_text second) (sym n)))

-- ---- trees
pub branch_awaited : (n : ℕ) (k : ℕ) (ns : List Node) → 0 < n → AreTrees (n + 1) ns → AreTrees n (Branch k ∷ ns)
branch_awaited zero k ns l h = absurd (omega arith)
branch_awaited (suc n) k ns l h = let e : suc n + 1 ≡ suc (suc n) = omega arith in subst (λ (m : ℕ). AreTrees m ns) e h

pub farkas_awaited : (n : ℕ) (fs : List ℤ) (ns : List Node) → 0 < n → AreTrees (n - 1) ns → AreTrees n (Farkas fs ∷ ns)
farkas_awaited zero fs ns l h = absurd (omega arith)
farkas_awaited (suc n) fs ns l h = let e : suc n - 1 ≡ n = omega arith in subst (λ (m : ℕ). AreTrees m ns) e h

pub bound_awaited : (n : ℕ) (w : ℤ) (fs : List ℤ) (ns : List Node) → 0 < n → AreTrees (n - 1) ns → AreTrees n (Bound w fs ∷ ns)
bound_awaited zero w fs ns l h = absurd (omega arith)
bound_awaited (suc n) w fs ns l h = let e : suc n - 1 ≡ n = omega arith in subst (λ (m : ℕ). AreTrees m ns) e h

pub ruleset awaiting = (branch_awaited, farkas_awaited, bound_awaited)

abbrev pub Completes : ℕ → List Node → Type 0
Completes n out = (ns : List Node) → AreTrees n ns → AreTrees 1 (out ++ ns)

pub completes_step : (n m : ℕ) (out new : List Node) (p : Node) → new ≡ out ++ p ∷ [] → Completes n out → ((ns : List Node) → AreTrees m ns → AreTrees n (p ∷ ns)) → Completes m new
completes_step n m out new p e h k ns a =
    subst (λ (xs : List Node). AreTrees 1 (xs ++ ns)) (sym e) (subst (λ (xs : List Node). AreTrees 1 xs) (sym (append_assoc out (p ∷ []) ns)) (h (p ∷ ns) (k ns a)))

pub completes_all : (n : ℕ) (out : List Node) → n ≤ 0 → Completes n out → AreTrees 1 out
completes_all zero out l h = subst (λ (xs : List Node). AreTrees 1 xs) (append-nil out) (h [] tt)
completes_all (suc n) out l h = absurd (omega arith)

pub nodes_fit : (pairs quantities : ℕ) (out new : List Node) (p : Node) → new ≡ out ++ p ∷ [] → All (NodeFits pairs quantities) out → NodeFits pairs quantities p → All (NodeFits pairs quantities) new
nodes_fit pairs quantities out new p e h k = subst (λ (xs : List Node). All (NodeFits pairs quantities) xs) (sym e) (All-append (NodeFits pairs quantities) out (p ∷ []) h (All-cons (NodeFits pairs quantities) p [] k (All-nil (NodeFits pairs quantities))))

pub none_fit : (pairs quantities : ℕ) → All (NodeFits pairs quantities) []
none_fit pairs quantities = All-nil (NodeFits pairs quantities)

pub completes_none : Completes 1 []
completes_none ns h = h

pub ruleset treeing = (to_z-of_z, nodes_step, nodes_fit, none_fit, completes_step, completes_none, completes_all)

-- ---- pairs
abbrev First : ℕ → ℕ × ℕ → Type 0
First n p = IsNumber n p.0

abbrev Second : ℕ → ℕ × ℕ → Type 0
Second n p = IsNumber n p.1

pub first_more : (n : ℕ) (out new : List (ℕ × ℕ)) (p : ℕ × ℕ) → new ≡ out ++ p ∷ [] → All (λ (q : ℕ × ℕ). IsNumber n q.0) out → IsNumber n p.0 → All (λ (q : ℕ × ℕ). IsNumber n q.0) new
first_more n out new p e h k = subst (λ (xs : List (ℕ × ℕ)). All (First n) xs) (sym e) (All-append (First n) out (p ∷ []) h (All-cons (First n) p [] k (All-nil (First n))))

pub second_more : (n : ℕ) (out new : List (ℕ × ℕ)) (p : ℕ × ℕ) → new ≡ out ++ p ∷ [] → All (λ (q : ℕ × ℕ). IsNumber n q.1) out → IsNumber n p.1 → All (λ (q : ℕ × ℕ). IsNumber n q.1) new
second_more n out new p e h k = subst (λ (xs : List (ℕ × ℕ)). All (Second n) xs) (sym e) (All-append (Second n) out (p ∷ []) h (All-cons (Second n) p [] k (All-nil (Second n))))

pub length_pairs : (out new : List (ℕ × ℕ)) (p : ℕ × ℕ) → new ≡ out ++ p ∷ [] → length new ≡ length out + 1
length_pairs out new p e = ap length e ∙ length-append out (p ∷ [])

pub ruleset pairing = (to_z-of_z, pairs_step, first_more, second_more, length_pairs)

-- ---- verdicts
pub best_text : (a b t u v : List ℕ) (w : List ℕ) → t ≡ a ++ u → u ≡ b ++ v → w ++ t ≡ (w ++ (a ++ b)) ++ v
best_text a b t u v w e f = ap (λ x. w ++ x) (two_parts t a b u v e f) ∙ sym (append_assoc w (a ++ b) v)

pub missing_text : (a t u w : List ℕ) → t ≡ a ++ u → w ++ t ≡ (w ++ a) ++ u
missing_text a t u w e = ap (λ x. w ++ x) e ∙ sym (append_assoc w a u)

-- a verdict's first line, and what follows it
pub verdict_on : (whole line word mid text rest : List ℕ) → whole ≡ line ++ mid → line ≡ word → word ++ mid ≡ text ++ rest → whole ≡ text ++ rest
verdict_on whole line word mid text rest e f g = e ∙ (ap (λ x. x ++ mid) f ∙ g)

pub ruleset verdicts = (to_z-of_z, best_text, missing_text, verdict_on)

-- ---- the whole
pub whole_text : (c : Cert) (t a b d e : List ℕ) → t ≡ version_text (is_second c.links) ++ a → a ≡ counts_text c ++ b → b ≡ links_text c.links ++ d → d ≡ verdict_text (is_second c.links) c.verdict ++ e → e ≡ codes "end\n" → t ≡ cert_text c
whole_text c t a b d e f g h k l =
    f ∙ ap (λ x. version_text (is_second c.links) ++ x) (g ∙ ap (λ x. counts_text c ++ x) (h ∙ ap (λ x. links_text c.links ++ x) (k ∙ ap (λ x. verdict_text (is_second c.links) c.verdict ++ x) l)))

pub ruleset wholes = (to_z-of_z, whole_text)

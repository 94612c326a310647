-- Parts of a text that are added one after another.
use Rattle.std.proofs.Common.{◌≡◌, ℕ, ◌+◌, ◌<◌, ◌≤◌, Bool, List, [], ◌∷◌, ◌++◌, length, drop, get_or, codes, Result, Ok, Err, arith, sym, ap, ◌∙◌, append_assoc, append-nil, length-append, All}
use Rattle.std.proofs.lemmas.List.{drop_more, drop_all}
use Rattle.std.proofs.lemmas.List.Elements.{All-nil, All-cons, All-head, All-tail}
use Rattle.std.proofs.lemmas.Int.{to_z-of_z}
use Rattle.emp_cert.specs.declared.cert.Cert.{Cert}
use Rattle.emp_cert.specs.declared.cert.Verdict.{Verdict}
use Rattle.emp_cert.specs.declared.cert.Verdict.TheVariants.{Point, Missing, Best, Unbounded}
use Rattle.emp_cert.specs.declared.tree.Node.{Node}
use Rattle.emp_cert.specs.declared.tree.Node.TheVariants.{Branch, Farkas, Bound}
use Rattle.emp_cert.specs.Certs.{NodeFits, VerdictFits}
use Rattle.emp_cert_text.specs.declared.write.WriteFault.{WriteFault}
use Rattle.emp_cert_text.specs.declared.write.WriteFault.TheVariants.{TooLong, NoMemory}
use Rattle.emp_cert_text.specs.Text.{cert_text, version_text, counts_text, links_text, is_second, verdict_text, nodes_text, node_text}
use Rattle.emp_cert_text.specs.Writing.{HasFew, VerdictHasFew, AddsText, longest}

-- ---- nodes
pub nodes_more : (second : Bool) (out new : List ℕ) (ns : List Node) (i : ℕ) (d : Node) (whole : List ℕ) → i < length ns → new ≡ out ++ node_text second (get_or ns i d) → out ++ nodes_text second (drop i ns) ≡ whole → new ++ nodes_text second (drop (i + 1) ns) ≡ whole
nodes_more second out new ns i d whole l e h =
    ap (λ t. t ++ nodes_text second (drop (i + 1) ns)) e ∙ (append_assoc out (node_text second (get_or ns i d)) (nodes_text second (drop (i + 1) ns)) ∙ (ap (λ xs. out ++ nodes_text second xs) (sym (drop_more ns i d l)) ∙ h))

pub nodes_all : (second : Bool) (out : List ℕ) (ns : List Node) (i : ℕ) (whole : List ℕ) → length ns ≤ i → out ++ nodes_text second (drop i ns) ≡ whole → out ≡ whole
nodes_all second out ns i whole l h = sym (append-nil out) ∙ (ap (λ xs. out ++ nodes_text second xs) (sym (drop_all i ns l)) ∙ h)

-- what is too long already stays so
pub too_long : (out rest old text : List ℕ) → out ++ rest ≡ old ++ text → longest < length out → longest < length old + length text
too_long out rest old text e h = omega (arith, length-append out rest, length-append old text, ap length e)

pub ruleset node_lines = (to_z-of_z, nodes_more, nodes_all, too_long)

-- ---- one part after another
pub adds_after : (old a mid b new : List ℕ) (r : Result (Unit {0}) WriteFault) → mid ≡ old ++ a → AddsText mid b new r → AddsText old (a ++ b) new r
adds_after old a mid b new (Ok u) e h = h ∙ (ap (λ t. t ++ b) e ∙ append_assoc old a b)
adds_after old a mid b new (Err TooLong) e h = omega (arith, h, length-append old a, length-append a b, ap length e)
adds_after old a mid b new (Err NoMemory) e h = tt

pub ruleset parts = (to_z-of_z, adds_after)

-- ---- the whole
pub whole_ok : (c : Cert) (old head mid new : List ℕ) → head ≡ old ++ (version_text (is_second c.links) ++ (counts_text c ++ links_text c.links)) → mid ≡ head ++ verdict_text (is_second c.links) c.verdict → new ≡ mid ++ codes "end\n" → new ≡ old ++ cert_text c
whole_ok c old head mid new e f g =
    let v = version_text (is_second c.links) in
    g ∙ (ap (λ t. t ++ codes "end\n") (f ∙ ap (λ t. t ++ verdict_text (is_second c.links) c.verdict) e)
    ∙ (append_assoc (old ++ (version_text (is_second c.links) ++ (counts_text c ++ links_text c.links))) (verdict_text (is_second c.links) c.verdict) (codes "end\n")
    ∙ (append_assoc old (version_text (is_second c.links) ++ (counts_text c ++ links_text c.links)) (verdict_text (is_second c.links) c.verdict ++ codes "end\n")
    ∙ ap (λ t. old ++ t)
    (append_assoc (version_text (is_second c.links)) (counts_text c ++ links_text c.links) (verdict_text (is_second c.links) c.verdict ++ codes "end\n")
    ∙ ap (λ t. version_text (is_second c.links) ++ t) (append_assoc (counts_text c) (links_text c.links) (verdict_text (is_second c.links) c.verdict ++ codes "end\n"))))))

pub whole_long : (c : Cert) (old head : List ℕ) → head ≡ old ++ (version_text (is_second c.links) ++ (counts_text c ++ links_text c.links)) → longest < length head + length (verdict_text (is_second c.links) c.verdict) → longest < length old + length (cert_text c)
whole_long c old head e h =
    let V = verdict_text (is_second c.links) c.verdict in
    omega (
      arith,
      h,
      ap length e,
      length-append old (version_text (is_second c.links) ++ (counts_text c ++ links_text c.links)),
      length-append (version_text (is_second c.links)) (counts_text c ++ links_text c.links),
      length-append (counts_text c) (links_text c.links),
      length-append (version_text (is_second c.links)) (counts_text c ++ (links_text c.links ++ (verdict_text (is_second c.links) c.verdict ++ codes "end\n"))),
      length-append (counts_text c) (links_text c.links ++ (verdict_text (is_second c.links) c.verdict ++ codes "end\n")),
      length-append (links_text c.links) (verdict_text (is_second c.links) c.verdict ++ codes "end\n"),
      length-append (verdict_text (is_second c.links) c.verdict) (codes "end\n"),
    )

pub ruleset whole = (to_z-of_z, whole_ok, whole_long)

-- ---- sizes
pub few_node : (pairs quantities : ℕ) (n : Node) → quantities ≤ 512 → NodeFits pairs quantities n → HasFew n
few_node pairs quantities (Branch k) l h = tt
few_node pairs quantities (Farkas fs) l h = omega (arith, h.0)
few_node pairs quantities (Bound w fs) l h = omega (arith, h.2)

few_nodes : (pairs quantities : ℕ) (ns : List Node) → quantities ≤ 512 → All (NodeFits pairs quantities) ns → All HasFew ns
few_nodes pairs quantities [] l h = All-nil HasFew
few_nodes pairs quantities (n ∷ ns) l h = All-cons HasFew n ns (few_node pairs quantities n l (All-head (NodeFits pairs quantities) n ns h)) (few_nodes pairs quantities ns l (All-tail (NodeFits pairs quantities) n ns h))

pub verdict_few : (base quantities pairs : ℕ) (v : Verdict) → quantities ≤ 512 → VerdictFits base quantities pairs v → VerdictHasFew v
verdict_few base quantities pairs (Point fs) l h = tt
verdict_few base quantities pairs (Missing t) l h = few_nodes pairs quantities t.nodes l h
verdict_few base quantities pairs (Best fs t) l h = few_nodes pairs quantities t.nodes l h.1
verdict_few base quantities pairs (Unbounded fs gs) l h = tt

pub ruleset writing = (to_z-of_z, verdict_few)

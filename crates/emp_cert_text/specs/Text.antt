-- The text of a certificate. Each certificate has one.
use Rattle.std.specs.Prelude.{ℕ, ◌+◌, Bool, true, false, cond, ℤ, List, [], ◌∷◌, ◌++◌, map, codes, decimal, Option, Some, None}
use Rattle.std.specs.Fmt.{signed_decimal}
use Rattle.emp_numeral.specs.FracText.{fraction_text}
use Rattle.emp_num.specs.declared.frac.Frac.{Frac}
use Rattle.emp_algebra.specs.Vector.{is_zero}
use Rattle.emp_cert.specs.declared.cert.Cert.{Cert}
use Rattle.emp_cert.specs.declared.cert.Verdict.{Verdict}
use Rattle.emp_cert.specs.declared.cert.Verdict.TheVariants.{Point, Missing, Best, Unbounded}
use Rattle.emp_cert.specs.declared.tree.Node.{Node}
use Rattle.emp_cert.specs.declared.tree.Node.TheVariants.{Branch, Farkas, Bound}

-- ---- lines
-- words, each after a space
abbrev pub spaced : List (List ℕ) → List ℕ
spaced [] = []
spaced (w ∷ ws) = 32 ∷ (w ++ spaced ws)

-- a line begins with a word, has single spaces between its words, and ends with LF
abbrev pub line : List ℕ → List (List ℕ) → List ℕ
line w ws = w ++ (spaced ws ++ 10 ∷ [])

-- ---- leaves
-- of the factors from number k on, those that are not 0, each behind its number
abbrev pub sparse : ℕ → List ℤ → List (List ℕ)
sparse k [] = []
sparse k (f ∷ fs) = cond (is_zero f) (sparse (k + 1) fs) ((decimal k ++ (58 ∷ signed_decimal f)) ∷ sparse (k + 1) fs)

-- all factors in version 1, those that are not 0 in version 2
abbrev pub factors : Bool → List ℤ → List (List ℕ)
factors false fs = map signed_decimal fs
factors true fs = sparse 1 fs

abbrev pub node_text : Bool → Node → List ℕ
node_text second (Branch k) = line (codes "branch") (decimal k ∷ [])
node_text second (Farkas fs) = line (codes "farkas") (factors second fs)
node_text second (Bound w fs) = line (codes "bound") (signed_decimal w ∷ factors second fs)

abbrev pub nodes_text : Bool → List Node → List ℕ
nodes_text second [] = []
nodes_text second (n ∷ ns) = node_text second n ++ nodes_text second ns

-- ---- the parts
abbrev pub point_text : List Frac → List ℕ
point_text fs = line (codes "point") (map fraction_text fs)

abbrev pub ray_text : List Frac → List ℕ
ray_text fs = line (codes "ray") (map fraction_text fs)

abbrev pub verdict_text : Bool → Verdict → List ℕ
verdict_text second (Point fs) = point_text fs
verdict_text second (Missing t) = line (codes "none") [] ++ nodes_text second t.nodes
verdict_text second (Best fs t) = line (codes "best") [] ++ (point_text fs ++ nodes_text second t.nodes)
verdict_text second (Unbounded fs gs) = line (codes "unbounded") [] ++ (point_text fs ++ ray_text gs)

abbrev pub pair_text : ℕ × ℕ → List ℕ
pair_text p = line (codes "pair") (decimal p.0 ∷ (decimal p.1 ∷ []))

abbrev pub pairs_text : List (ℕ × ℕ) → List ℕ
pairs_text [] = []
pairs_text (p ∷ ps) = pair_text p ++ pairs_text ps

-- version 1 has no links, and version 2 has them
abbrev pub is_second : Option (List (ℕ × ℕ)) → Bool
is_second None = false
is_second (Some ps) = true

abbrev pub links_text : Option (List (ℕ × ℕ)) → List ℕ
links_text None = []
links_text (Some ps) = pairs_text ps

abbrev pub version_text : Bool → List ℕ
version_text false = codes "emp certificate 1\n"
version_text true = codes "emp certificate 2\n"

abbrev pub sizes_text : ℕ → ℕ → ℕ → List ℕ
sizes_text base quantities pairs = line (codes "rows") (decimal base ∷ (decimal quantities ∷ (decimal pairs ∷ [])))

abbrev pub counts_text : Cert → List ℕ
counts_text c = sizes_text c.base c.quantities c.pairs

abbrev pub cert_text : Cert → List ℕ
cert_text c = version_text (is_second c.links) ++ (counts_text c ++ (links_text c.links ++ (verdict_text (is_second c.links) c.verdict ++ codes "end\n")))

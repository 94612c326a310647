-- What may stand next in the text of a certificate, line by line.
use Rattle.std.specs.Prelude.{◌≡◌, ◌≢◌, ◌⊎◌, ℕ, zero, suc, ◌+◌, Bool, true, false, List, [], ◌∷◌, ◌++◌, codes}
use Rattle.std.specs.Io.BufRead.{take_through, drop_through}
use Rattle.emp_cert.specs.Certs.{Counts, NodeFits}
use Rattle.emp_cert.specs.declared.tree.Node.{Node}
use Rattle.emp_cert.specs.declared.tree.Node.TheVariants.{Branch, Farkas, Bound}
use Rattle.emp_cert_text.specs.Text.{version_text, sizes_text, node_text}
use Rattle.emp_cert_text.specs.Lines.{SizesRight, PairRight, PairFits, PointRight, PointFits, RayRight, RayFits, NodeRight}

-- the version, and how many base variables, quantities and pairs there are
pub record Head : Type 0 where
  pub second : Bool
  pub base : ℕ
  pub quantities : ℕ
  pub pairs : ℕ

-- what is still to come: a line, or a verdict's lines, or those of a tree
pub data Part : Type 0 where
  counts : Bool → Part
  pair : ℕ → Part
  verdict : Head → Part
  point : ℕ → Part
  ray : ℕ → Part
  tree : Head → Part
  last : Part

abbrev pub head_of : Bool → ℕ → ℕ → ℕ → Head
head_of second b q p = record { second = second; base = b; quantities = q; pairs = p }

abbrev pub pairs_before : ℕ → ℕ → List Part → List Part
pairs_before zero quantities ps = ps
pairs_before (suc n) quantities ps = pair quantities ∷ pairs_before n quantities ps

abbrev pub trees_before : ℕ → Head → List Part → List Part
trees_before zero h ps = ps
trees_before (suc n) h ps = tree h ∷ trees_before n h ps

-- behind the counts: in version 2 the pairs, and then a verdict and the last line
abbrev pub behind_counts : Bool → ℕ → ℕ → ℕ → List Part
behind_counts false b q p = verdict (head_of false b q p) ∷ (last ∷ [])
behind_counts true b q p = pairs_before p q (verdict (head_of true b q p) ∷ (last ∷ []))

-- behind a node: two trees, or none
abbrev pub behind_node : Head → Node → List Part
behind_node h (Branch k) = tree h ∷ (tree h ∷ [])
behind_node h (Farkas fs) = []
behind_node h (Bound w fs) = []

-- ---- lines
-- the first line of a verdict, and the parts that come behind it
pub data VerdictStands (h : Head) : List ℕ → List Part → Type 0 where
  no_point : VerdictStands h (codes "none\n") (tree h ∷ [])
  best_point : VerdictStands h (codes "best\n") (point h.base ∷ (tree h ∷ []))
  step : VerdictStands h (codes "unbounded\n") (point h.base ∷ (ray h.base ∷ []))
  a_point : (l : List ℕ) → PointFits h.base l → VerdictStands h l []

-- the line stands for the part, all its numbers within their ranges, and these parts come behind it
abbrev pub Stands : Part → List ℕ → List Part → Type 0
Stands (counts second) l ps = (b : ℕ) × (q : ℕ) × (p : ℕ) × Counts b q p × (l ≡ sizes_text b q p) × (ps ≡ behind_counts second b q p)
Stands (pair q) l ps = PairFits q l × (ps ≡ [])
Stands (verdict h) l ps = VerdictStands h l ps
Stands (point b) l ps = PointFits b l × (ps ≡ [])
Stands (ray b) l ps = RayFits b l × (ps ≡ [])
Stands (tree h) l ps = (n : Node) × NodeFits h.pairs h.quantities n × (l ≡ node_text h.second n) × (ps ≡ behind_node h n)
Stands last l ps = (l ≡ codes "end\n") × (ps ≡ [])

-- the line has the right words for the part, whatever the ranges of its numbers
abbrev pub Right : Part → List ℕ → Type 0
Right (counts second) l = SizesRight l
Right (pair q) l = PairRight l
Right (verdict h) l = (l ≡ codes "none\n") ⊎ ((l ≡ codes "best\n") ⊎ ((l ≡ codes "unbounded\n") ⊎ PointRight h.base l))
Right (point b) l = PointRight b l
Right (ray b) l = RayRight b l
Right (tree h) l = NodeRight h.second h.quantities l
Right last l = l ≡ codes "end\n"

-- ---- points
-- a part that at this line is a point, and nothing else
pub record TakesPoint (b : ℕ) (p : Part) (l : List ℕ) : Type 0 where
  pub right : Right p l → PointRight b l
  pub from_right : PointRight b l → Right p l
  pub stands : PointFits b l → Stands p l []
  pub from_stands : (qs : List Part) → Stands p l qs → PointFits b l

-- ---- texts
-- with so many lines one comes from these parts and text to those
abbrev pub Runs : ℕ → List Part → List ℕ → List Part → List ℕ → Type 0
Runs zero ps t qs r = (ps ≡ qs) × (t ≡ r)
Runs (suc n) [] t qs r = ⊥
Runs (suc n) (p ∷ ps) t qs r = (ms : List Part) × Stands p (take_through 10 t) ms × Runs n (ms ++ ps) (drop_through 10 t) qs r

-- the lines before line n, counted from 1, are those of a certificate; these parts are still to come, and r is what is left
pub record Reaches (t : List ℕ) (n : ℕ) (ps : List Part) (r : List ℕ) : Type 0 where
  pub second : Bool
  pub before : ℕ
  pub version : take_through 10 t ≡ version_text second
  pub line : n ≡ before + 2
  pub runs : Runs before (counts second ∷ []) (drop_through 10 t) ps r

-- ---- faults
-- line n has the right words, and no line with numbers within their ranges has these
pub record RangeAt (t : List ℕ) (n : ℕ) : Type 0 where
  pub part : Part
  pub parts : List Part
  pub rest : List ℕ
  pub reached : Reaches t n (part ∷ parts) rest
  pub right : Right part (take_through 10 rest)
  pub beyond : (qs : List Part) → Stands part (take_through 10 rest) qs → ⊥

-- something is left where nothing is to come, or the line has not the right words
abbrev pub Wrong : List Part → List ℕ → Type 0
Wrong [] r = r ≢ []
Wrong (p ∷ ps) r = Right p (take_through 10 r) → ⊥

pub record SyntaxAt (t : List ℕ) (n : ℕ) : Type 0 where
  pub parts : List Part
  pub rest : List ℕ
  pub reached : Reaches t n parts rest
  pub wrong : Wrong parts rest

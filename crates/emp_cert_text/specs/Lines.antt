-- Lines that have the right words, with numbers of any size.
use Rattle.std.specs.Prelude.{◌≡◌, ◌≢◌, ◌⊎◌, ℕ, zero, suc, ◌+◌, ◌<◌, ◌≤◌, Bool, true, false, ℤ, pos, ◌<ℤ◌, ◌≤ℤ◌, List, [], ◌∷◌, ◌++◌, map, length, take, drop, codes, Option, Some, None, Result, Ok, Err, All}
use Rattle.std.specs.Fmt.{signed_decimal}
use Rattle.emp_num.specs.Exact.{IsNarrow}
use Rattle.emp_numeral.specs.FracText.{fraction_text}
use Rattle.emp_num.specs.declared.frac.Frac.{Frac}
use Rattle.emp_rows.specs.Points.{IsNumber}
use Rattle.emp_cert.specs.Certs.{Counts, NodeFits}
use Rattle.emp_cert.specs.declared.tree.Node.{Node}
use Rattle.emp_cert_text.specs.Text.{spaced, sparse, factors, sizes_text, pair_text, point_text, ray_text, node_text}
use Rattle.emp_cert_text.specs.Words.{is_whole, whole, IsFraction}
use Rattle.emp_cert_text.specs.declared.lines.LineFault.{LineFault}
use Rattle.emp_cert_text.specs.declared.lines.LineFault.TheVariants.{Range, Syntax, NoMemory}

-- so many words, each after a space, and LF
abbrev pub AreWords : (List ℕ → Type 0) → ℕ → List ℕ → Type 0
AreWords P zero t = t ≡ 10 ∷ []
AreWords P (suc n) t = (w : List ℕ) × (u : List ℕ) × (t ≡ 32 ∷ (w ++ u)) × P w × AreWords P n u

abbrev pub IsWhole : List ℕ → Type 0
IsWhole w = is_whole w ≡ true

abbrev pub IsAbove : Option ℤ → ℤ → Type 0
IsAbove None k = Unit {0}
IsAbove (Some l) k = l <ℤ k

-- a word `K:M` with K above the last and M not 0
pub record IsFactor (last : Option ℤ) (w k m : List ℕ) : Type 0 where
  pub parts : w ≡ k ++ 58 ∷ m
  pub place : IsWhole k
  pub factor : IsWhole m
  pub some : whole m ≢ pos 0
  pub above : IsAbove last (whole k)

-- so many words `K:M`, with K rising from above the last and no M of 0, each after a space, and LF
abbrev pub AreFactors : ℕ → Option ℤ → List ℕ → Type 0
AreFactors zero last t = t ≡ 10 ∷ []
AreFactors (suc n) last t = (w : List ℕ) × (k : List ℕ) × (m : List ℕ) × (u : List ℕ) × (t ≡ 32 ∷ (w ++ u)) × IsFactor last w k m × AreFactors n (Some (whole k)) u

-- the factors of a leaf, in version 1 and in version 2
abbrev pub FactorsRight : Bool → ℕ → List ℕ → Type 0
FactorsRight false quantities t = AreWords IsWhole quantities t
FactorsRight true quantities t = (n : ℕ) × AreFactors n None t

-- ---- lines
abbrev pub SizesRight : List ℕ → Type 0
SizesRight l = (t : List ℕ) × (l ≡ codes "rows" ++ t) × AreWords IsWhole 3 t

abbrev pub PairRight : List ℕ → Type 0
PairRight l = (t : List ℕ) × (l ≡ codes "pair" ++ t) × AreWords IsWhole 2 t

abbrev pub PointRight : ℕ → List ℕ → Type 0
PointRight base l = (t : List ℕ) × (l ≡ codes "point" ++ t) × AreWords IsFraction base t

abbrev pub RayRight : ℕ → List ℕ → Type 0
RayRight base l = (t : List ℕ) × (l ≡ codes "ray" ++ t) × AreWords IsFraction base t

pub data NodeRight (second : Bool) (quantities : ℕ) (l : List ℕ) : Type 0 where
  branch : (t : List ℕ) → l ≡ codes "branch" ++ t → AreWords IsWhole 1 t → NodeRight second quantities l
  farkas : (t : List ℕ) → l ≡ codes "farkas" ++ t → FactorsRight second quantities t → NodeRight second quantities l
  bound : (w t : List ℕ) → l ≡ codes "bound" ++ (32 ∷ (w ++ t)) → IsWhole w → FactorsRight second quantities t → NodeRight second quantities l

-- ---- lines of values that are within their ranges
abbrev pub SizesFit : List ℕ → Type 0
SizesFit l = (b : ℕ) × (q : ℕ) × (p : ℕ) × Counts b q p × (l ≡ sizes_text b q p)

abbrev pub PairFits : ℕ → List ℕ → Type 0
PairFits quantities l = (p : ℕ × ℕ) × IsNumber quantities p.0 × IsNumber quantities p.1 × (l ≡ pair_text p)

abbrev pub PointFits : ℕ → List ℕ → Type 0
PointFits base l = (fs : List Frac) × (length fs ≡ base) × (l ≡ point_text fs)

abbrev pub RayFits : ℕ → List ℕ → Type 0
RayFits base l = (fs : List Frac) × (length fs ≡ base) × (l ≡ ray_text fs)

abbrev pub NodeLineFits : Bool → ℕ → ℕ → List ℕ → Type 0
NodeLineFits second pairs quantities l = (n : Node) × NodeFits pairs quantities n × (l ≡ node_text second n)

-- ---- faults
-- of a line that has the right words or not, and is one of a value within the ranges or not
abbrev pub LineFails : Type 0 → Type 0 → LineFault → Type 0
LineFails right fits Range = right × (fits → ⊥)
LineFails right fits Syntax = right → ⊥
LineFails right fits NoMemory = Unit {0}

-- what words after a place are read as: each outcome with what is so exactly there
abbrev pub NumbersGive : List ℕ → ℕ → Result (List ℤ) LineFault → Type 0
NumbersGive t n (Ok zs) = (t ≡ spaced (map signed_decimal zs) ++ 10 ∷ []) × (length zs ≡ n) × All IsNarrow zs
NumbersGive t n (Err e) = LineFails (AreWords IsWhole n t) ((zs : List ℤ) × All IsNarrow zs × (t ≡ spaced (map signed_decimal zs) ++ 10 ∷ [])) e

abbrev pub FractionsGive : List ℕ → ℕ → Result (List Frac) LineFault → Type 0
FractionsGive t n (Ok fs) = (t ≡ spaced (map fraction_text fs) ++ 10 ∷ []) × (length fs ≡ n)
FractionsGive t n (Err e) = LineFails (AreWords IsFraction n t) ((fs : List Frac) × (t ≡ spaced (map fraction_text fs) ++ 10 ∷ [])) e

abbrev pub FactorsGive : Bool → List ℕ → ℕ → Result (List ℤ) LineFault → Type 0
FactorsGive second t n (Ok fs) = (t ≡ spaced (factors second fs) ++ 10 ∷ []) × (length fs ≡ n) × All IsNarrow fs
FactorsGive second t n (Err e) = LineFails (FactorsRight second n t) ((fs : List ℤ) × (length fs ≡ n) × All IsNarrow fs × (t ≡ spaced (factors second fs) ++ 10 ∷ [])) e

-- a word is put behind the others, or 0 where it is outside its range; true where it is
abbrev pub PushesWhole : List ℕ → List ℤ → List ℤ → Result Bool LineFault → Type 0
PushesWhole w old new (Ok false) = (z : ℤ) × (new ≡ old ++ z ∷ []) × IsNarrow z × IsWhole w × (w ≡ signed_decimal z)
PushesWhole w old new (Ok true) = (new ≡ old ++ pos 0 ∷ []) × IsWhole w × ((z : ℤ) → IsNarrow z → w ≡ signed_decimal z → ⊥)
PushesWhole w old new (Err Range) = ⊥
PushesWhole w old new (Err Syntax) = IsWhole w → ⊥
PushesWhole w old new (Err NoMemory) = Unit {0}

-- the number that a word writes, where there is a word
abbrev pub last_of : List ℕ → Option ℤ
last_of [] = None
last_of (b ∷ bs) = Some (whole (b ∷ bs))

-- there is no word before, or it is a whole number
abbrev pub IsLast : List ℕ → Type 0
IsLast w = (w ≡ []) ⊎ IsWhole w

-- where the colon of a word `K:M` stands
abbrev pub FactorAt : List ℕ → List ℕ → Option ℕ → Type 0
FactorAt before w None = (k m : List ℕ) → IsFactor (last_of before) w k m → ⊥
FactorAt before w (Some c) = (c < length w) × IsFactor (last_of before) w (take c w) (drop (c + 1) w)

-- a factor is put at its place, with zeros before it, where both are within their ranges; true where they are
abbrev pub TakesFactor : ℕ → List ℕ → List ℕ → List ℤ → List ℤ → Bool → Type 0
TakesFactor count k m old new true = (sparse 1 new ≡ sparse 1 old ++ (k ++ 58 ∷ m) ∷ []) × (whole k ≡ pos (length new)) × (length new ≤ count) × (All IsNarrow old → All IsNarrow new)
TakesFactor count k m old new false = IsNarrow (whole m) → pos (length old) <ℤ whole k → whole k ≤ℤ pos count → ⊥

abbrev pub PushesFraction : List ℕ → List Frac → List Frac → Result Bool LineFault → Type 0
PushesFraction w old new (Ok false) = (f : Frac) × (new ≡ old ++ f ∷ []) × IsFraction w × (w ≡ fraction_text f)
PushesFraction w old new (Ok true) = (f : Frac) × (new ≡ old ++ f ∷ []) × IsFraction w × ((g : Frac) → w ≡ fraction_text g → ⊥)
PushesFraction w old new (Err Range) = ⊥
PushesFraction w old new (Err Syntax) = IsFraction w → ⊥
PushesFraction w old new (Err NoMemory) = Unit {0}

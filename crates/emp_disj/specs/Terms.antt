-- The terms of a disjunction in whole numbers: which of them is met, what each lacks, and weights that choose one.
use Rattle.std.specs.Prelude.{◌≡◌, ◌⊎◌, ℤ, pos, ◌+ℤ◌, ◌-ℤ◌, ◌≤ℤ◌, ◌<ℤ◌, List, [], ◌∷◌, length}
use Rattle.emp_algebra.specs.Vector.{scale}
use Rattle.emp_ast.specs.declared.model.Relation.{Relation}
use Rattle.emp_ast.specs.declared.model.Relation.TheVariants.{Equal, AtLeast, AtMost, Nothing}
use Rattle.emp_game.specs.Solved.{IsObeyed}

-- the relation, and left minus right
abbrev pub Gap : Type 0
Gap = Relation × ℤ

abbrev pub IsMet : Gap → Type 0
IsMet g = IsObeyed g.0 g.1

abbrev pub OneIsMet : List Gap → Type 0
OneIsMet [] = ⊥
OneIsMet (g ∷ gs) = IsMet g ⊎ OneIsMet gs

-- the slack makes up for what left minus right lacks; `=N=` asks for nothing
abbrev pub MakesUp : Relation → ℤ → ℤ → Type 0
MakesUp Equal z s = (pos 0 ≤ℤ (z +ℤ s)) × (pos 0 ≤ℤ (s -ℤ z))
MakesUp AtLeast z s = pos 0 ≤ℤ (z +ℤ s)
MakesUp AtMost z s = pos 0 ≤ℤ (s -ℤ z)
MakesUp Nothing z s = Unit {0}

-- slack and weight of one term: both at least 0, one of them 0, and the slack makes up
abbrev pub IsEased : Gap → ℤ → ℤ → Type 0
IsEased g s w = MakesUp g.0 g.1 s × (pos 0 ≤ℤ w) × (pos 0 ≤ℤ s) × ((w ≡ pos 0) ⊎ (s ≡ pos 0))

-- for each term, of so many slacks and weights
abbrev pub AreEased : List Gap → List ℤ → List ℤ → Type 0
AreEased [] [] [] = Unit {0}
AreEased [] [] (w ∷ ws) = ⊥
AreEased [] (s ∷ ss) ws = ⊥
AreEased (g ∷ gs) [] ws = ⊥
AreEased (g ∷ gs) (s ∷ ss) [] = ⊥
AreEased (g ∷ gs) (s ∷ ss) (w ∷ ws) = IsEased g s w × AreEased gs ss ws

abbrev pub total : List ℤ → ℤ
total [] = pos 0
total (w ∷ ws) = w +ℤ total ws

-- slacks and weights, times n, with this total of weights
pub record Eases (n d : ℤ) (gs : List Gap) (ss ws : List ℤ) : Type 0 where
  pub slacks : length ss ≡ length gs
  pub weights : length ws ≡ length gs
  pub eased : AreEased gs (scale n ss) (scale n ws)
  pub whole : total ws ≡ d

-- ---- the laws
-- a term with weight above 0 has slack 0, so it is met
abbrev pub TermsAreMet : Type 0
TermsAreMet = (n d : ℤ) (gs : List Gap) (ss ws : List ℤ) → pos 0 <ℤ n → pos 0 <ℤ d → Eases n d gs ss ws → OneIsMet gs

-- all weight on a term that is met, and for each other one its gap's size as its slack
abbrev pub TermsHaveSlacks : Type 0
TermsHaveSlacks = (n d : ℤ) (gs : List Gap) → pos 0 <ℤ n → pos 0 <ℤ d → OneIsMet gs → (ss : List ℤ) × (ws : List ℤ) × Eases n d gs ss ws

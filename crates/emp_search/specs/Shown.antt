-- What the search shows.
use Rattle.std.specs.Prelude.{◌≡◌, ℕ, ◌*ℤ◌, ◌≤ℤ◌, List, [], length, Option, Some, None}
use Rattle.emp_line.specs.declared.line.Line.{Line}
use Rattle.emp_num.specs.Point.{Point, StandsFor}
use Rattle.emp_num.specs.declared.frac.Frac.{Frac}
use Rattle.emp_rows.specs.declared.affine.Affine.{Affine}
use Rattle.emp_rows.specs.declared.system.RowSystem.{RowSystem}
use Rattle.emp_rows.specs.RowPoints.{value_at, Solves}
use Rattle.emp_cert.specs.declared.tree.Turn.{Turn}
use Rattle.emp_cert.specs.Deciders.{NodeTree, preorder, ShowsNone, ShowsBest}
use Rattle.emp_cert.specs.Verdicts.{IsRowRay}
use Rattle.emp_dict.specs.Dictionary.{Dictionary, line_at}
use Rattle.emp_decide.specs.Reads.{IsPointOf, IsStepOf}
use Rattle.emp_decide.specs.Laws.{IsDictionaryOf}
use Rattle.emp_search.specs.Search.{Finding, point, ray, State, Searched, closed, found, wide_at, out_of_units, search_from, search_of}

-- the objective's row
abbrev pub objective_row : Dictionary → Line
objective_row d = line_at d (length d.marks)

-- the objective o is at the point x no more than at the dictionary's point
abbrev pub Reaches : Affine → Point → Dictionary → Type 0
Reaches o x d = (value_at o x *ℤ (objective_row d).denom) ≤ℤ ((objective_row d).constant *ℤ x.den)

-- without an incumbent the tree leaves no row point; with one it bounds the objective by every value that reaches the incumbent's
abbrev pub ShowsFor : RowSystem → Option Dictionary → List Turn → NodeTree → Type 0
ShowsFor s None p t = ShowsNone s p t
ShowsFor s (Some e) p t = (o : Affine) → s.objective ≡ Some o → (x : Point) → Reaches o x e → ShowsBest s o x p t

-- the dictionary's point is a row point
pub record IsSolved (s : RowSystem) (d : Dictionary) : Type 0 where
  pub dictionary : IsDictionaryOf s d
  pub solves : (fs : List Frac) (x : Point) → IsPointOf d fs → StandsFor fs x → Solves s x

-- the incumbent, where there is one
abbrev pub BestIs : RowSystem → Option Dictionary → Type 0
BestIs s None = Unit {0}
BestIs s (Some e) = ((o : Affine) × (s.objective ≡ Some o)) × IsSolved s e

abbrev pub FoundIs : RowSystem → Finding → Type 0
FoundIs s (point d) = (s.objective ≡ None) × IsSolved s d
FoundIs s (ray d j up) = ((o : Affine) × (s.objective ≡ Some o)) × ((fs gs : List Frac) (x y : Point) → IsPointOf d fs → IsStepOf d j up gs → StandsFor fs x → StandsFor gs y → IsRowRay s x y)

-- what a search that ended without a fault shows of the system: what it wrote is a tree
pub record IsShown (s : RowSystem) (st : State) : Type 0 where
  pub tree : NodeTree
  pub written : st.written ≡ preorder tree
  pub shows : ShowsFor s st.best [] tree
  pub best : BestIs s st.best

abbrev pub SearchShows : RowSystem → Searched → Type 0
SearchShows s (closed st) = IsShown s st
SearchShows s (found f st) = FoundIs s f
SearchShows s (wide_at n p) = Unit {0}
SearchShows s out_of_units = Unit {0}

abbrev pub SearchesShow : Type 0
SearchesShow = (s : RowSystem) (limit : ℕ) → SearchShows s (search_of s limit)

-- also where others took units and nodes before
abbrev pub SearchesFromShow : Type 0
SearchesFromShow = (s : RowSystem) (limit left nodes : ℕ) → SearchShows s (search_from s limit left nodes)

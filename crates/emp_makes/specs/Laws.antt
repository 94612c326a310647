-- What is so of every answer of `make`, as statements.
use Rattle.std.specs.Prelude.{◌≡◌, ◌⊎◌, List, Ok}
use Rattle.emp_num.specs.Point.{Point, StandsFor}
use Rattle.emp_num.specs.declared.frac.Frac.{Frac}
use Rattle.emp_ast.specs.declared.tree.Place.{Place}
use Rattle.emp_ast.specs.declared.model.Model.{Model}
use Rattle.emp_ast.specs.declared.annot.Annot.{Annot}
use Rattle.emp_ast.specs.Equilibrium.{IsEquilibrium}
use Rattle.emp_command.specs.Words.{Asked}
use Rattle.emp_command.specs.Course.{Outcome, refusal, AreFirmsInRange}
use Rattle.emp_poly.specs.declared.tree.PolyFault.TheVariants as PolyWords
use Rattle.emp_report.specs.ClassLines.{poly_line}
use Rattle.emp_make.specs.Markets.{IsMarket}
use Rattle.emp_makes.specs.Makes.{OutputGives, ProfitGives, summary, Saves, SumsUp, Makes}

-- a market is summed up, or a number is wide, or the work is spent
abbrev pub MakesEnd : Type 0
MakesEnd = (r : Asked) (o : Outcome) → AreFirmsInRange r.firms → Makes r o → (o.status ≡ 0) ⊎ ((o.status ≡ 19) ⊎ (o.status ≡ 20))

-- the sums are those of an equilibrium of a market of the seed
pub record ShowsSums (r : Asked) (o : Outcome) : Type 0 where
  pub model : Model
  pub annot : Annot
  pub market : IsMarket r.seed r.firms model annot
  pub values : List Frac
  pub point : Point
  pub stands : StandsFor values point
  pub equilibrium : IsEquilibrium model annot point
  pub output : Frac
  pub profit : Frac
  pub outputs : OutputGives r.firms values (Ok output)
  pub profits : ProfitGives r.firms values (Ok profit)
  pub says : o.says ≡ summary r.firms output profit
  pub stores : Saves model annot r.output o.stores

abbrev pub MadeShows : Type 0
MadeShows = (r : Asked) (o : Outcome) → Makes r o → o.status ≡ 0 → ShowsSums r o

-- a model and an annotation are summed up in one way: one status, one list of texts that are stored, and one text that is said
abbrev pub OneSummary : Type 0
OneSummary = (m : Model) (a : Annot) (r : Asked) (o p : Outcome) → SumsUp m a r o → SumsUp m a r p → o ≡ p

-- the line says that a coefficient of the model is wide, and where it stands
abbrev pub SaysWideCoefficient : Outcome → Type 0
SaysWideCoefficient o = (place : Place) × (o ≡ refusal 19 (poly_line (PolyWords.Wide place)))

-- a seed and a count of firms in range have one outcome, or two that tell of a wide coefficient: a market does not say at which places its
-- formulas stand
abbrev pub OneMake : Type 0
OneMake = (r : Asked) (o p : Outcome) → AreFirmsInRange r.firms → Makes r o → Makes r p → (o ≡ p) ⊎ (SaysWideCoefficient o × SaysWideCoefficient p)

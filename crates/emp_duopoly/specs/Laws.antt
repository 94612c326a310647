-- The law of generated markets, as a statement.
use Rattle.std.specs.Prelude.{ℕ}
use Rattle.emp_num.specs.Point.{Point}
use Rattle.emp_ast.specs.declared.model.Model.{Model}
use Rattle.emp_ast.specs.declared.annot.Annot.{Annot}
use Rattle.emp_ast.specs.Equilibrium.{IsEquilibrium}
use Rattle.emp_make.specs.Markets.{IsMarket}

-- each generated market has an equilibrium
abbrev pub MarketsHaveEquilibria : Type 0
MarketsHaveEquilibria = (seed firms : ℕ) (m : Model) (a : Annot) → IsMarket seed firms m a → (p : Point) × IsEquilibrium m a p

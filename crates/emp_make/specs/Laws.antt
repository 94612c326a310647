-- What the definition of a market promises, as statements.
use Rattle.std.specs.Prelude.{◌≡◌, ℕ}
use Rattle.emp_ast.specs.declared.model.Model.{Model}
use Rattle.emp_ast.specs.declared.annot.Annot.{Annot}
use Rattle.emp_ast.specs.Names.{SameModel}
use Rattle.emp_make.specs.Markets.{demand, cost, cap, IsMarket}

-- the numbers of the first three firms of the seed 7, of which the first two share a market
pub record NumbersOfSeven : Type 0 where
  pub demands : (demand 7 0 ≡ 39) × (demand 7 1 ≡ 39) × (demand 7 2 ≡ 22)
  pub costs : (cost 7 0 ≡ 9) × (cost 7 1 ≡ 1) × (cost 7 2 ≡ 8)
  pub caps : (cap 7 0 ≡ 8) × (cap 7 1 ≡ 17) × (cap 7 2 ≡ 10)

-- a seed has one market of so many firms, places aside
abbrev pub MarketsAreOne : Type 0
MarketsAreOne = (seed firms : ℕ) (m n : Model) (a b : Annot) → IsMarket seed firms m a → IsMarket seed firms n b → SameModel m n × (a ≡ b)

-- What the steps of summing a market up come to. This serves proofs; no meaning cites it.
use Rattle.std.specs.Prelude.{◌≡◌, ◌⊎◌, ℕ, List, Result, Ok, Err}
use Rattle.emp_num.specs.declared.frac.Frac.{Frac}
use Rattle.emp_ast.specs.declared.tree.VarId.{VarId}
use Rattle.emp_ast.specs.declared.model.Model.{Model}
use Rattle.emp_ast.specs.declared.annot.Annot.{Annot}
use Rattle.emp_command.specs.Words.{Asked}
use Rattle.emp_command.specs.Course.{Outcome}
use Rattle.emp_makes.specs.declared.sums.Totals.{Totals}
use Rattle.emp_makes.specs.Makes.{OutputGives, ProfitGives, summary, Saves}

abbrev pub TotalsGive : ℕ → List Frac → Result Totals VarId → Type 0
TotalsGive firms values (Ok t) = OutputGives firms values (Ok t.output) × ProfitGives firms values (Ok t.profit)
TotalsGive firms values (Err w) = OutputGives firms values (Err w) ⊎ ((output : Frac) × OutputGives firms values (Ok output) × ProfitGives firms values (Err w))

-- the sums are said, and the canonical texts stored where the words name files for them
pub record SaysSums (m : Model) (a : Annot) (r : Asked) (t : Totals) (o : Outcome) : Type 0 where
  pub stores : List (List ℕ × List ℕ)
  pub saves : Saves m a r.output stores
  pub is : o ≡ record { status = 0; stores = stores; says = summary r.firms t.output t.profit }

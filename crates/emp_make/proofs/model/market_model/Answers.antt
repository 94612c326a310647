use Rattle.std.proofs.Common.{◌≡◌, ◌++◌, refl, ap, ◌∙◌}
use Rattle.emp_make.specs.Parts.{profit_variables, quantity_variables}
use Rattle.emp_make.proofs.Made.{profits_at, quantities_at, variables_count}
use Rattle.emp_make.proofs.model.market_model.Goals as goal

pub returns : goal.returns
returns c =
    let seed = c.args.seed in
    let n = c.args.firms in
    let vs = c.push_quantities.new.variables in
    let e : vs ≡ profit_variables n ++ quantity_variables seed n =
    c.in_ok-push_quantities.ensures ∙ ap (λ xs. xs ++ quantity_variables seed n) (c.in_ok-push_profits.ensures ∙ ap (λ xs. xs ++ profit_variables n) c.new-variables.ensures) in
    record {
      name = c.in_ok-name.ensures;
      variables = variables_count seed n vs e;
      profits = λ k h. profits_at seed n k vs e h;
      quantities = λ k h. quantities_at seed n k vs e h;
      equations = c.in_ok-equations.ensures.count;
      each = c.in_ok-equations.ensures.each;
      goal = refl;
    }

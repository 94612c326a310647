use Rattle.std.proofs.Common.{◌≡◌, ◌+◌, ◌<◌, ◌≤◌, IfOk, ap, subst, ◌∙◌}
use Rattle.emp_num.specs.Whole.{whole}
use Rattle.emp_ast.specs.Expression.{Expression, expression_of}
use Rattle.emp_make.specs.Markets.{quantity}
use Rattle.emp_make.proofs.Made.{shared_is, lone_is}
use Rattle.emp_make.proofs.model.profit.Goals as goal

pub returns-then-first-firms : goal.returns-then-first-firms
returns-then-first-firms c =
    subst (λ (e : Expression). IfOk c.shared_profit.result (λ t. expression_of t.nodes ≡ e))
    (shared_is c.args.seed c.args.firms c.args.firm c.whole-demand.result c.whole-cost.result c.quantity.result.at c.quantity-then-first-firms.result.at c.quantity-own.result.at
    (c.whole-demand.ensures ∙ ap (λ n. whole n) c.demand.ensures)
    (c.whole-cost.ensures ∙ ap (λ n. whole n) c.cost.ensures)
    (c.quantity.ensures ∙ ap (λ n. quantity c.args.firms n) c.first_of_market-first.ensures.value)
    (c.quantity-then-first-firms.ensures ∙ ap (λ n. quantity c.args.firms (n + 1)) c.first_of_market-first.ensures.value)
    c.quantity-own.ensures
    (subst (λ n. n + 1 < c.args.firms) c.first_of_market-first.ensures.value c.if-first-firms.true))
    c.shared_profit.ensures

pub returns-else-first-firms : goal.returns-else-first-firms
returns-else-first-firms c =
    subst (λ (e : Expression). IfOk c.lone_profit.result (λ t. expression_of t.nodes ≡ e))
    (lone_is c.args.seed c.args.firms c.args.firm c.whole-demand.result c.whole-cost.result c.quantity-own.result.at
    (c.whole-demand.ensures ∙ ap (λ n. whole n) c.demand.ensures)
    (c.whole-cost.ensures ∙ ap (λ n. whole n) c.cost.ensures)
    c.quantity-own.ensures
    (subst (λ n. c.args.firms ≤ n + 1) c.first_of_market-first.ensures.value c.if-first-firms.false))
    c.lone_profit.ensures

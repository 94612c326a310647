use Rattle.std.proofs.Common.{[], ◌∷◌, ◌++◌, ap, ◌∙◌}
use Rattle.emp_expand.proofs.Listing.{one_pushed}
use Rattle.emp_expand.proofs.products.with_one.Goals as goal

pub returns-in_ok-push-in-None-Some : goal.returns-in_ok-push-in-None-Some
returns-in_ok-push-in-None-Some c =
    one_pushed c.args.first c.in-None-Some.second c.args.other c.args.out.now.items c.push.new.self.items c.in-None-Some.is-0 c.in-None-Some.is-1
    (c.in_ok-push-in-None-Some.ensures.items ∙ ap (λ k. c.args.out.now.items ++ k ∷ []) c.ordered.ensures)

use Rattle.emp_expand.proofs.Listing.{others_each}
use Rattle.emp_expand.proofs.products.with_others.Goals as goal

pub returns-in_ok-with_each-in-None-Some : goal.returns-in_ok-with_each-in-None-Some
returns-in_ok-with_each-in-None-Some c =
    others_each c.in-None-Some.variable c.args.first c.args.others.now c.args.out.now.items c.with_each.new.out.items c.in-None-Some.is-0 c.in-None-Some.is-1 c.in_ok-with_each-in-None-Some.ensures

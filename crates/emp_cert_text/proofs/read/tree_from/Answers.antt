use Rattle.std.proofs.Common.{◌≡◌, ◌-◌, ◌++◌, List, [], ◌∷◌, drop, subst, arith, rules}
use Rattle.emp_cert_text.proofs.Reading.{nodes_step, nodes_fit, completes_step, completes_all}
use Rattle.emp_cert_text.specs.Course.{Part, head_of, trees_before}
use Rattle.emp_cert_text.specs.Reading.{IsAt}
use Rattle.emp_cert_text.proofs.Places.{trees_next, trees_all}
use Rattle.emp_cert_text.proofs.read.tree_from.Goals as goal

pub loop-awaited-preserved : goal.loop-awaited-preserved
loop-awaited-preserved c =
    let grown : c.push.new.self ≡ c.loop-awaited.nodes ++ c.in_ok-node.node ∷ [] = c.in_ok-push.ensures.ok in
    record {
      text = nodes_step c.args.second (drop c.args.spot.at c.args.text.now) (drop c.loop-awaited.here.at c.args.text.now) (drop c.in_ok-node.next.at c.args.text.now) c.loop-awaited.nodes c.push.new.self c.in_ok-node.node grown c.loop-awaited.invariant.text c.in_ok-node.ensures.text;
      within = c.in_ok-node.ensures.within;
      fits = nodes_fit c.args.sizes.pairs c.args.sizes.quantities c.loop-awaited.nodes c.push.new.self c.in_ok-node.node grown c.loop-awaited.invariant.fits c.in_ok-node.ensures.fits;
      trees = completes_step c.loop-awaited.awaited c.awaited_after-awaited.result c.loop-awaited.nodes c.push.new.self c.in_ok-node.node grown c.loop-awaited.invariant.trees c.awaited_after-awaited.ensures.trees;
      next = λ b ps h. subst (λ (x : List Part). IsAt c.args.text.now x c.in_ok-node.next) (c.awaited_after-awaited.ensures.parts (head_of c.args.second b c.args.sizes.quantities c.args.sizes.pairs) ps) (c.in_ok-node.ensures.next b (trees_before (c.loop-awaited.awaited - 1) (head_of c.args.second b c.args.sizes.quantities c.args.sizes.pairs) ps) (trees_next c.args.text.now c.loop-awaited.awaited (head_of c.args.second b c.args.sizes.quantities c.args.sizes.pairs) ps c.loop-awaited.here (omega arith) (c.loop-awaited.invariant.next b ps h)));
      few = omega (arith, c.awaited_after-awaited.ensures.more, c.in_ok-node.ensures.further, c.loop-awaited.invariant.few);
    }

pub invariant_of-result : goal.invariant_of-result
invariant_of-result c = record { whole = completes_all c.loop-awaited.awaited c.loop-awaited.nodes (omega arith) c.loop-awaited.invariant.trees }

pub returns-in_err-node-clause-err : goal.returns-in_err-node-clause-err
returns-in_err-node-clause-err c = λ b ps h.
    let f = c.in_err-node.ensures.err b (trees_before (c.loop-awaited.awaited - 1) (head_of c.args.second b c.args.sizes.quantities c.args.sizes.pairs) ps) (trees_next c.args.text.now c.loop-awaited.awaited (head_of c.args.second b c.args.sizes.quantities c.args.sizes.pairs) ps c.loop-awaited.here (omega arith) (c.loop-awaited.invariant.next b ps h)) in
    search rules

pub returns-clause-next : goal.returns-clause-next
returns-clause-next c = λ b ps h. trees_all c.args.text.now c.loop-awaited.awaited (head_of c.args.second b c.args.sizes.quantities c.args.sizes.pairs) ps c.loop-awaited.here (omega arith) (c.loop-awaited.invariant.next b ps h)

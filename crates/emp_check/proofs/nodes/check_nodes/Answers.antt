use Rattle.std.proofs.Common.{◌≡◌, Some, subst, sym, ◌∙◌}
use Rattle.emp_check.specs.Levels.{level_of}
use Rattle.emp_check.specs.Trees.{next}
use Rattle.emp_check.specs.Steps.{Advances}
use Rattle.emp_check.proofs.Walks.{goes}
use Rattle.emp_check.proofs.nodes.check_nodes.Goals as goal

pub loop-at-preserved : goal.loop-at-preserved
loop-at-preserved c =
    let o : next c.loop-at.trail c.index-nodes-at.result ≡ Some c.next.new.trail = subst (λ b. Advances (next c.loop-at.trail c.index-nodes-at.result) b c.next.new.trail) c.if-not-next.false c.next.ensures in
    let g = goes c.args.system.now (level_of c.args.best) c.loop-at.trail c.next.new.trail c.args.nodes.now c.loop-at.at c.index-nodes-at.result _ c.requires.nodes c.loop-at-test.true c.index-nodes-at.is c.loop-at.invariant.path (sym c.node_test.ensures ∙ c.in-Fine.is) o c.loop-at.invariant.rest in
    record { path = g.path; rest = g.rest }

use Rattle.std.proofs.Common.{◌≡◌, ◌+◌, drop, [], Some}
use Rattle.emp_check.specs.Levels.{level_of}
use Rattle.emp_check.specs.Trees.{nodes_test}
use Rattle.emp_check.specs.Steps.{IsPath}
use Rattle.emp_check.proofs.nodes.check_nodes.Given as goal

abbrev pub invariant-loop-at : goal.invariant-loop-at
invariant-loop-at l = record {
  path : IsPath l.system l.trail;
  rest : nodes_test l.system (level_of l.best) (l.at + 1) (Some l.trail) (drop l.at l.nodes) ≡ nodes_test l.system (level_of l.best) 1 (Some []) l.nodes;
}

use Rattle.std.specs.Prelude.{◌≡◌, ◌≤◌}
use Rattle.emp_ast.specs.declared.model.Model.{Model}
use Rattle.emp_owner.specs.Rules.{constrained_among}
use Rattle.emp_owner.specs.Settled.{AreDefinitions}
use Rattle.emp_owner.proofs.constraints.times_constrained.Given as goal

abbrev pub invariant-loop-at : goal.invariant-loop-at
invariant-loop-at l = record {
  times : (m : Model) → AreDefinitions m l.annot l.defined → l.times ≡ constrained_among m l.annot l.e.at l.at;
  few : l.times ≤ l.at;
}

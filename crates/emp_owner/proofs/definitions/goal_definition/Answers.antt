use Rattle.std.proofs.Common.{sym, ◌∙◌}
use Rattle.emp_ast.specs.declared.tree.VarId.{VarId}
use Rattle.emp_ast.specs.declared.model.Sense.{Sense}
use Rattle.emp_ast.specs.Parties.{leader}
use Rattle.emp_owner.specs.Finding.{FindsLeft}
use Rattle.emp_owner.specs.Settled.{IsDefinition}
use Rattle.emp_owner.proofs.Lists.{if_ok}
use Rattle.emp_owner.proofs.Defining.{leader_found}
use Rattle.emp_owner.proofs.definitions.goal_definition.Goals as goal

pub returns-then-may_be_defined : goal.returns-then-may_be_defined
returns-then-may_be_defined c =
    let m = c.args.model.now in
    let a = c.args.annot.now in
    let g : Sense × VarId = (c.in-Some.field-0-0, c.in-Some.w) in
    if_ok (FindsLeft m a c.in-Some.w.at) (IsDefinition m a leader) c.find_left.result (λ o f. leader_found m a g o c.in-Some.is (sym c.may_be_defined.ensures ∙ c.if-may_be_defined.true) f) c.find_left.ensures

use Rattle.std.proofs.Common.{sym, ap, subst, ◌∙◌}
use Rattle.emp_dict.specs.declared.label.Mark.TheVariants.{Required}
use Rattle.emp_dict.specs.Dicts.{dictionary_of}
use Rattle.emp_step.specs.Levels.{IsLevel}
use Rattle.emp_step.specs.Steps.{with_mark}
use Rattle.emp_step.proofs.Whole.{raise_level}
use Rattle.emp_face.specs.Budgets.{units_left}
use Rattle.emp_face.proofs.Goings.{fault_level}
use Rattle.emp_face.proofs.steps.raise.Goals as goal

pub returns-clause-level : goal.returns-clause-level
returns-clause-level c =
    let left = raise_level (units_left c.args.budget.now) c.args.k (dictionary_of c.args.dict.now) c.args.dict.now.sound c.requires.level c.requires.number c.requires.unasked in
    subst (λ x. IsLevel x) (ap (λ s. (with_mark c.args.k Required s).dictionary) c.in_ok-outcome.ensures.step ∙ sym c.mark_held.ensures) left.1

pub returns-in_err-outcome-clause-level : goal.returns-in_err-outcome-clause-level
returns-in_err-outcome-clause-level c =
    let left = raise_level (units_left c.args.budget.now) c.args.k (dictionary_of c.args.dict.now) c.args.dict.now.sound c.requires.level c.requires.number c.requires.unasked in
    fault_level c.args.k Required _ (dictionary_of c.run.new.dict) (units_left c.run.new.budget) c.in_err-outcome.field-0.0 c.in_err-outcome.ensures.step left.1

-- What is shown of a file of which a problem is made.
use Rattle.std.proofs.Common.{◌≡◌, true}
use Rattle.std.proofs.lemmas.Option.{slice_get_within}
use Rattle.emp_ast.specs.declared.model.Model.{Model}
use Rattle.emp_ast.specs.declared.annot.Annot.{Annot}
use Rattle.emp_ast.specs.Parties.{leader}
use Rattle.emp_form.specs.Form.{IsLinear}
use Rattle.emp_owner.specs.Settled.{IsKept}
use Rattle.emp_agents.specs.Given.{given_form}
use Rattle.emp_problem.specs.Class.{AnnotFits, GoalFits, IsClassFile}
use Rattle.emp_subst.specs.Subst.{AllExpand, AllLinear}

pub class_file : (m : Model) (a : Annot) → IsKept m a → AnnotFits m a → GoalFits m → AllExpand m → AllLinear m a → (a.bilevel ≡ true → IsLinear (given_form m a leader)) → IsClassFile m a
class_file m a kept fits goal expand linear leads = record {
  goal = goal;
  fits = fits;
  kept = kept;
  expanded = λ e q at. let both = expand e q (slice_get_within m.equations e q at) at in (both.0.1.polynomial, both.1.1.polynomial);
  linear = λ e q at is. linear e q (slice_get_within m.equations e q at) at is;
  leads = leads;
}

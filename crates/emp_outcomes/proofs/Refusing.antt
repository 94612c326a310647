-- What refusals of files without rows come to.
use Rattle.std.proofs.Common.{◌≡◌, ◌≢◌, Result, IfOk, subst, sym}
use Rattle.emp_list.specs.declared.memory.NoMemory.{NoMemory}
use Rattle.emp_ast.specs.declared.model.Model.{Model}
use Rattle.emp_ast.specs.declared.annot.Annot.{Annot}
use Rattle.emp_command.specs.Course.{refusal}
use Rattle.emp_owner.specs.declared.owned.OwnFault.{OwnFault}
use Rattle.emp_owner.specs.declared.owned.OwnFault.TheVariants as OwnWords
use Rattle.emp_owner.specs.Settled.{IsKept, IsFirstBroken}
use Rattle.emp_solution.specs.declared.state.StateFault.{StateFault}
use Rattle.emp_solution.specs.Stated.{StateGives}
use Rattle.emp_report.specs.TextLines.{own_line}
use Rattle.emp_outcomes.specs.declared.said.Answer.{Answer}
use Rattle.emp_outcomes.specs.Outcomes.{state_status, state_line, IsNamedFault, Refuses, bad_owner, unstated}
use Rattle.emp_outcomes.specs.Steps.{outcome_of}
use Rattle.emp_outcomes.proofs.Oks.{ok_map}
use Rattle.std.specs.Prelude.{Err}

module _ (x : Result Answer NoMemory) (m : Model) (a : Annot) where
  pub owner_refused : (f : OwnFault) → IsFirstBroken m a f → IfOk x (λ r. (f ≢ OwnWords.NoMemory) × (outcome_of r ≡ refusal 16 (own_line m f))) → IfOk x (λ r. Refuses m a (outcome_of r))
  owner_refused f b p = ok_map x (λ r. (f ≢ OwnWords.NoMemory) × (outcome_of r ≡ refusal 16 (own_line m f))) (λ r. Refuses m a (outcome_of r)) (λ r h. subst (Refuses m a) (sym h.1) (bad_owner f h.0 b)) p

  pub rows_refused : (f : StateFault) → IsKept m a → StateGives m a (Err f) → IfOk x (λ r. IsNamedFault f × (outcome_of r ≡ refusal (state_status f) (state_line m f))) → IfOk x (λ r. Refuses m a (outcome_of r))
  rows_refused f k g p = ok_map x (λ r. IsNamedFault f × (outcome_of r ≡ refusal (state_status f) (state_line m f))) (λ r. Refuses m a (outcome_of r)) (λ r h. subst (Refuses m a) (sym h.1) (unstated f h.0 k g)) p

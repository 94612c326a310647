-- What `solve` answers, step by step.
use Rattle.std.proofs.Common.{◌≡◌, ◌≢◌, inl, inr, ℕ, List, Result, Ok, Err, IfOk, subst, sym}
use Rattle.emp_list.specs.declared.memory.NoMemory.{NoMemory}
use Rattle.emp_ast.specs.declared.model.Model.{Model}
use Rattle.emp_ast.specs.declared.annot.Annot.{Annot}
use Rattle.emp_command.specs.Words.{Asked}
use Rattle.emp_command.specs.Course.{Outcome, refusal}
use Rattle.emp_subst.specs.declared.fault.FillFault.{FillFault}
use Rattle.emp_subst.specs.declared.fault.FillFault.TheVariants as FillWords
use Rattle.emp_cert.specs.declared.cert.Found.{Found}
use Rattle.emp_walk.specs.declared.fault.WalkFault.{WalkFault}
use Rattle.emp_walk.specs.declared.fault.WalkFault.TheVariants as WalkWords
use Rattle.emp_walk.specs.Founds.{CertGives}
use Rattle.emp_solution.specs.declared.state.Stated.{Stated}
use Rattle.emp_solution.specs.Stated.{IsStated}
use Rattle.emp_outcomes.specs.declared.said.Answer.{Answer}
use Rattle.emp_outcomes.specs.Outcomes.{walk_status, walk_line, IsReport, Refuses, Solves, refused, unfinished, unfilled, too_long, answered}
use Rattle.emp_outcomes.specs.Steps.{outcome_of, Delivered, ReportGives, ValueRefused}
use Rattle.emp_outcomes.proofs.Oks.{ok_map}

module _ (x : Result Answer NoMemory) (m : Model) (a : Annot) (r : Asked) where
  abbrev Good : Answer → Type 0
  Good s = Solves m a r (outcome_of s)

  pub refused_answer : IfOk x (λ s. Refuses m a (outcome_of s)) → IfOk x Good
  refused_answer p = ok_map x (λ s. Refuses m a (outcome_of s)) Good (λ s h. refused (outcome_of s) h) p

  pub unfinished_answer : (s : Stated) (f : WalkFault) → IsStated m a s → CertGives s.system r.work (Err f) → IfOk x (λ o. (f ≢ WalkWords.NoMemory) × (outcome_of o ≡ refusal (walk_status f) (walk_line f))) → IfOk x Good
  unfinished_answer s f i g p = ok_map x (λ o. (f ≢ WalkWords.NoMemory) × (outcome_of o ≡ refusal (walk_status f) (walk_line f))) Good (λ o h. subst (Solves m a r) (sym h.1) (unfinished s f h.0 i g)) p

  deliver_one : (s : Stated) (f : Found) (t : ℕ × List ℕ) (o : Answer) → IsStated m a s → CertGives s.system r.work (Ok f) → IsReport m a s f t → Delivered r.output f.cert t (outcome_of o) → Good o
  deliver_one s f t o i g k (inl h) = subst (Solves m a r) (sym h.1) (answered s f t i g k h.0)
  deliver_one s f t o i g k (inr h) = subst (Solves m a r) (sym h.1) (too_long s f t i g k h.0)

  pub delivered_answer : (s : Stated) (f : Found) (t : ℕ × List ℕ) → IsStated m a s → CertGives s.system r.work (Ok f) → IsReport m a s f t → IfOk x (λ o. Delivered r.output f.cert t (outcome_of o)) → IfOk x Good
  delivered_answer s f t i g k p = ok_map x (λ o. Delivered r.output f.cert t (outcome_of o)) Good (λ o h. deliver_one s f t o i g k h) p

unfilled_one : (m : Model) (a : Annot) (r : Asked) (s : Stated) (f : Found) (w : FillFault) (o : Outcome) → IsStated m a s → CertGives s.system r.work (Ok f) → ReportGives m a s f (Err w) → ValueRefused m w o → Solves m a r o
unfilled_one m a r s f (FillWords.Wide w) o i g u e = subst (Solves m a r) (sym e) (unfilled s f w i g u)
unfilled_one m a r s f FillWords.NoMemory o i g u e = absurd e

pub unfilled_answer : (x : Result Answer NoMemory) (m : Model) (a : Annot) (r : Asked) (s : Stated) (f : Found) (w : FillFault) → IsStated m a s → CertGives s.system r.work (Ok f) → ReportGives m a s f (Err w) → IfOk x (λ o. ValueRefused m w (outcome_of o)) → IfOk x (λ o. Solves m a r (outcome_of o))
unfilled_answer x m a r s f w i g u p = ok_map x (λ o. ValueRefused m w (outcome_of o)) (λ o. Solves m a r (outcome_of o)) (λ o e. unfilled_one m a r s f w (outcome_of o) i g u e) p

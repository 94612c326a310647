-- What `check` answers over a certificate that the program found.
use Rattle.std.proofs.Common.{◌≡◌, ℕ, ◌⊎◌, inl, inr, List, sym, ap, ◌∙◌}
use Rattle.emp_desk.specs.Desk.{Contents}
use Rattle.emp_command.specs.Course.{refusal}
use Rattle.emp_check.specs.Checks.{checked}
use Rattle.emp_check.specs.declared.outcome.Checked.{Checked}
use Rattle.emp_check.specs.Laws.{Ends}
use Rattle.emp_report.specs.CertLines.{accepted_line, sum_line}
use Rattle.emp_outcomes.specs.Outcomes.{saying}
use Rattle.emp_outcome_laws.specs.Certificates.{check_outcome}
use Rattle.emp_outcome_laws.proofs.Owning.{found_ends}
use Rattle.emp_engine.specs.Run.{IsCheck, HoldsCert, HoldsOwn, Passes, IsAnswered}
use Rattle.emp_engine.proofs.Headline.{said_alone}
use Rattle.emp_engine.proofs.Tested.{tested}

module _ (words : List (List ℕ)) (x : Contents) (c : IsCheck words) (own : HoldsOwn words x) where
  holds_cert : HoldsCert words x
  holds_cert = record { model = own.model; annot = own.annot; texts = own.texts; cert_file = own.cert_file; third = own.third; stated = own.stated; rows = own.rows; cert = own.found.cert; text = own.text }

  passes : (y : Contents) (end : ℕ) (n : IsAnswered words x y end) (r : Checked) → n.outcome ≡ check_outcome own.found.cert r → Ends r → Passes own.found.cert.verdict end x y
  passes y end n r e (inl k) =
      let f : n.outcome ≡ saying 0 (accepted_line own.found.cert.verdict) = e ∙ ap (check_outcome own.found.cert) k in
      inl (sym n.is ∙ ap (λ o. o.status) f, said_alone words x y end n _ (ap (λ o. o.stores) f) (ap (λ o. o.says) f))
  passes y end n r e (inr k) =
      let f : n.outcome ≡ refusal 19 (sum_line k.0) = e ∙ ap (check_outcome own.found.cert) k.1 in
      inr (k.0, sym n.is ∙ ap (λ o. o.status) f, said_alone words x y end n _ (ap (λ o. o.stores) f) (ap (λ o. o.says) f))

  pub either_passes : (y : Contents) (end : ℕ) → (end ≡ 21) ⊎ IsAnswered words x y end → (end ≡ 21) ⊎ Passes own.found.cert.verdict end x y
  unfolding holds_cert
  either_passes y end (inl e) = inl e
  either_passes y end (inr n) = inr (passes y end n (checked own.stated.system own.found.cert) (tested words x c holds_cert y end n) (found_ends own.stated.system own.work own.found own.search))

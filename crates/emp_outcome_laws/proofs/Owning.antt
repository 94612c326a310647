-- What the program stores passes its own checker.
use Rattle.std.proofs.Common.{◌≡◌, ◌⊎◌, inl, inr, ℕ, Ok, refl, sym, ap, subst, ◌∙◌}
use Rattle.emp_command.specs.Course.{refusal}
use Rattle.emp_rows.specs.declared.system.RowSystem.{RowSystem}
use Rattle.emp_cert.specs.declared.cert.Found.{Found}
use Rattle.emp_check.specs.Checks.{checked, LinksAre}
use Rattle.emp_check.specs.Laws.{Ends}
use Rattle.emp_check.proofs.Verdicts.{shown_ends}
use Rattle.emp_report.specs.CertLines.{sum_line, accepted_line}
use Rattle.emp_walk.specs.Founds.{CertGives}
use Rattle.emp_outcomes.specs.Outcomes.{saying}
use Rattle.emp_outcome_laws.specs.Laws.{OwnPasses}
use Rattle.emp_outcome_laws.specs.Certificates.{check_outcome}
use Rattle.emp_outcome_laws.proofs.Checking.{one_check}

-- what was found is accepted for the system of the search, or a number in the test is wide
pub found_ends : (s : RowSystem) (limit : ℕ) (f : Found) → CertGives s limit (Ok f) → Ends (checked s f.cert)
found_ends s limit f g =
    shown_ends s f.cert (record { base = g.names.base; quantities = g.names.quantities; pairs = g.names.pairs }) (subst (LinksAre s) (sym g.names.links) refl) g.shown

-- and `check` answers as its test ends
pub own_passes : OwnPasses
own_passes m a s limit f o h g c = go (found_ends s.system limit f g)
  where
    is : o ≡ check_outcome f.cert (checked s.system f.cert)
    is = one_check m a s f.cert o h c

    go : Ends (checked s.system f.cert) → (o ≡ saying 0 (accepted_line f.cert.verdict)) ⊎ ((node : ℕ) × (o ≡ refusal 19 (sum_line node)))
    go (inl e) = inl (is ∙ ap (check_outcome f.cert) e)
    go (inr e) = inr (e.0, is ∙ ap (check_outcome f.cert) e.1)

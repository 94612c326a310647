use Rattle.std.proofs.Common.{◌≡◌, take}
use Rattle.std.specs.Prelude.{filter, not, nat_eq}
use Rattle.emp_subst.proofs.terms.terms_without.Given as goal

abbrev pub invariant-loop-at : goal.invariant-loop-at
invariant-loop-at l = l.list ≡ filter (λ t. not (nat_eq t.0.at l.w.at)) (take l.at l.terms)

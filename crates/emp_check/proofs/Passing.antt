-- Tests that pass, or are wide.
use Rattle.std.proofs.Common.{◌≡◌, ◌⊎◌, inl, inr, sym, ap, subst}
use Rattle.emp_check.specs.declared.outcome.Tested.{Tested}
use Rattle.emp_check.specs.declared.outcome.Tested.TheVariants.{Fine, Wide}
use Rattle.emp_check.specs.Tests.{and_then}

abbrev pub Passes : Tested → Type 0
Passes t = (t ≡ Fine) ⊎ (t ≡ Wide)

pub passes_then : (a b : Tested) → Passes a → Passes b → Passes (and_then a b)
passes_then a b (inl e) h = subst (λ (x : Tested). Passes (and_then x b)) (sym e) h
passes_then a b (inr e) h = inr (ap (λ (x : Tested). and_then x b) e)

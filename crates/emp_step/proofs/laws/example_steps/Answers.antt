use Rattle.std.proofs.Common.{◌≡◌, [], ◌∷◌, refl, ap}
use Rattle.emp_dict.specs.declared.label.Mark.TheVariants.{Unasked, Required}
use Rattle.emp_step.proofs.laws.example_steps.Goals as goal

pub returns : goal.returns
returns c = record { raises = refl; fixes = refl; asks = refl; refuses = refl; moves = λ e. let marks : (Required ∷ []) ≡ (Unasked ∷ []) = ap (λ d. d.marks) e in absurd (cc) }

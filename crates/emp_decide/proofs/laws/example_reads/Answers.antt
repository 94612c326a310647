use Rattle.std.proofs.Common.{◌≡◌, pos, negsuc, [], ◌∷◌, refl}
use Rattle.emp_decide.proofs.laws.example_reads.Goals as goal

pub returns : goal.returns
returns c = record {
  factors = refl;
  not_opposite = λ e. let same : (pos 1 ∷ (pos 1 ∷ [])) ≡ (negsuc 0 ∷ (negsuc 0 ∷ [])) = e in absurd (cc);
  value = refl;
  column = refl;
  rate = refl;
}

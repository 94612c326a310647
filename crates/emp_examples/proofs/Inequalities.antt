-- The examples of variational inequalities.
use Rattle.std.proofs.Common.{◌≡◌, ℤ, pos, negsuc, ◌+ℤ◌, ◌-ℤ◌, ◌*ℤ◌, ◌≤ℤ◌, ◌<ℤ◌, true, false, [], ◌∷◌, arith, refl}
use Rattle.std.proofs.lemmas.Int.{ints}
use Rattle.emp_algebra.proofs.Laws.{mul_nonneg}
use Rattle.emp_algebra.proofs.Order.{linear}
use Rattle.emp_algebra.proofs.Ring.{var, lit, ◌⊕◌, ◌⊖◌, ◌⊗◌, by_ring}
use Rattle.emp_algebra.specs.Vector.{cell}
use Rattle.emp_num.specs.Ratio.{ratio, minus, SameRatio}
use Rattle.emp_num.specs.Point.{Point, coordinate}
use Rattle.emp_ast.specs.declared.model.Variable.{Variable}
use Rattle.emp_ast.specs.Meets.{MeetsEquation, MeetsBounds}
use Rattle.emp_ast.specs.Parties.{block, owns, is_constraint}
use Rattle.emp_ast.specs.Rivals.{Fits, IsRival}
use Rattle.emp_ast.specs.Solved.{IsSolved}
use Rattle.emp_ast.specs.Multipliers.{AreMultipliers}
use Rattle.emp_ast.specs.Equilibrium.{is_priced, IsEquilibrium}
use Rattle.emp_examples.specs.Small.{free, from, up_to, whole_point}
use Rattle.emp_examples.specs.Rivals.{ExamplesOfInequalities, sloped, sloped_by, idle, idle_by, falling, paired, paired_by}
use Rattle.emp_examples.proofs.Short.{each_of_one, each_of_two, below_one, below_two, from_zero}

sloped_rival : (x : Variable) (p r : Point) → Fits (sloped x) r → MeetsBounds r 0 x → IsRival (sloped x) sloped_by (block 0) p r
sloped_rival x p r fits b = record {
  deviation = record {
    fits = fits;
    others = below_one (λ v. owns (sloped x) sloped_by (block 0) v ≡ false → SameRatio (coordinate r v) (coordinate p v)) (λ own. cc);
    bounds = each_of_one (λ v y. owns (sloped x) sloped_by (block 0) v ≡ true → MeetsBounds r v y) x (λ own. b);
    definition = λ e q at h. cc;
  };
  constraints = each_of_one (λ e q. is_constraint (sloped x) sloped_by (block 0) e ≡ true → MeetsEquation r q) _ (λ h. cc);
}

sloped_equilibrium : (x : Variable) (p : Point) → Fits (sloped x) p → IsSolved (sloped x) sloped_by 0 p → IsEquilibrium (sloped x) sloped_by p
sloped_equilibrium x p fits s = record {
  fits = fits;
  solved = below_one (λ k. IsSolved (sloped x) sloped_by k p) s;
  choice = λ k e. ratio (pos 0) (pos 1);
  prices = record {
    multipliers = below_one (λ k. is_priced (sloped x) sloped_by k ≡ true → AreMultipliers (sloped x) sloped_by k p (λ e. ratio (pos 0) (pos 1))) (λ h. cc);
    duals = λ k i d within at h. cc;
    shared = λ j k e at_j at_k named h l. cc;
  };
}

-- the function is 0
idle_flow : (w b : ℤ) → pos 0 ≤ℤ (pos 0 *ℤ w *ℤ pos 1 +ℤ pos 0 *ℤ b)
idle_flow w b = let e : pos 0 *ℤ w *ℤ pos 1 +ℤ pos 0 *ℤ b ≡ pos 0 = by_ring (w ∷ b ∷ []) (lit (pos 0) ⊗ var 0 ⊗ lit (pos 1) ⊕ lit (pos 0) ⊗ var 1) (lit (pos 0)) refl in omega (arith, linear)

-- the function is 2, and the rival at least 3
upward_flow : (r d b : ℤ) → (pos 3 *ℤ d) ≤ℤ (r *ℤ pos 1) → pos 0 ≤ℤ (pos 2 *ℤ (r *ℤ pos 1 +ℤ negsuc 2 *ℤ d) *ℤ pos 1 +ℤ pos 0 *ℤ b)
upward_flow r d b h =
    let up : pos 0 ≤ℤ (pos 2 *ℤ (r *ℤ pos 1 -ℤ pos 3 *ℤ d)) = mul_nonneg (pos 2) (r *ℤ pos 1 -ℤ pos 3 *ℤ d) (omega (arith, ints)) (omega (arith, linear)) in
    let e : pos 2 *ℤ (r *ℤ pos 1 +ℤ negsuc 2 *ℤ d) *ℤ pos 1 +ℤ pos 0 *ℤ b ≡ pos 2 *ℤ (r *ℤ pos 1 -ℤ pos 3 *ℤ d) =
    by_ring (r ∷ d ∷ b ∷ [])
    (lit (pos 2) ⊗ (var 0 ⊗ lit (pos 1) ⊕ lit (negsuc 2) ⊗ var 1) ⊗ lit (pos 1) ⊕ lit (pos 0) ⊗ var 2)
    (lit (pos 2) ⊗ (var 0 ⊗ lit (pos 1) ⊖ lit (pos 3) ⊗ var 1))
    refl in
    omega (arith, linear)

-- the functions are 0 and 1, and the rival's second coordinate is at least 0
paired_flow : (x y d : ℤ) → pos 0 <ℤ d → (pos 0 *ℤ d) ≤ℤ (y *ℤ pos 1) → pos 0 ≤ℤ (pos 0 *ℤ (x *ℤ pos 1 +ℤ pos 0 *ℤ d) *ℤ (pos 1 *ℤ (d *ℤ pos 1) *ℤ pos 1) +ℤ (pos 1 *ℤ (y *ℤ pos 1 +ℤ pos 0 *ℤ d) *ℤ pos 1 +ℤ pos 0 *ℤ (pos 1 *ℤ (d *ℤ pos 1))) *ℤ (pos 1 *ℤ (d *ℤ pos 1)))
paired_flow x y d up h =
    let n : pos 0 ≤ℤ (y *ℤ d) = mul_nonneg y d (omega (arith, ints)) (omega (arith, ints)) in
    let e : pos 0 *ℤ (x *ℤ pos 1 +ℤ pos 0 *ℤ d) *ℤ (pos 1 *ℤ (d *ℤ pos 1) *ℤ pos 1) +ℤ (pos 1 *ℤ (y *ℤ pos 1 +ℤ pos 0 *ℤ d) *ℤ pos 1 +ℤ pos 0 *ℤ (pos 1 *ℤ (d *ℤ pos 1))) *ℤ (pos 1 *ℤ (d *ℤ pos 1)) ≡ y *ℤ d =
    by_ring (x ∷ y ∷ d ∷ [])
    (lit (pos 0) ⊗ (var 0 ⊗ lit (pos 1) ⊕ lit (pos 0) ⊗ var 2) ⊗ (lit (pos 1) ⊗ (var 2 ⊗ lit (pos 1)) ⊗ lit (pos 1)) ⊕ (lit (pos 1) ⊗ (var 1 ⊗ lit (pos 1) ⊕ lit (pos 0) ⊗ var 2) ⊗ lit (pos 1) ⊕ lit (pos 0) ⊗ (lit (pos 1) ⊗ (var 2 ⊗ lit (pos 1)))) ⊗ (lit (pos 1) ⊗ (var 2 ⊗ lit (pos 1))))
    (var 1 ⊗ var 2)
    refl in
    omega (arith, linear)

idle_rival : (p r : Point) → Fits idle r → MeetsBounds r 0 (up_to 2) → IsRival idle idle_by (block 0) p r
idle_rival p r fits b = record {
  deviation = record {
    fits = fits;
    others = below_one (λ v. owns idle idle_by (block 0) v ≡ false → SameRatio (coordinate r v) (coordinate p v)) (λ own. cc);
    bounds = each_of_one (λ v y. owns idle idle_by (block 0) v ≡ true → MeetsBounds r v y) (up_to 2) (λ own. b);
    definition = λ e q at h. cc;
  };
  constraints = λ e q at h. cc;
}

falling_rival : (p r : Point) → Fits falling r → IsRival falling sloped_by (block 0) p r
falling_rival p r fits = record {
  deviation = record {
    fits = fits;
    others = below_one (λ v. owns falling sloped_by (block 0) v ≡ false → SameRatio (coordinate r v) (coordinate p v)) (λ own. cc);
    bounds = each_of_one (λ v y. owns falling sloped_by (block 0) v ≡ true → MeetsBounds r v y) free (λ own. (tt, tt));
    definition = λ e q at h. cc;
  };
  constraints = each_of_one (λ e q. is_constraint falling sloped_by (block 0) e ≡ true → MeetsEquation r q) _ (λ h. cc);
}

paired_rival : (p r : Point) → Fits paired r → MeetsBounds r 1 (from 0) → IsRival paired paired_by (block 0) p r
paired_rival p r fits b = record {
  deviation = record {
    fits = fits;
    others = below_two (λ v. owns paired paired_by (block 0) v ≡ false → SameRatio (coordinate r v) (coordinate p v)) (λ own. cc) (λ own. cc);
    bounds = each_of_two (λ v y. owns paired paired_by (block 0) v ≡ true → MeetsBounds r v y) free (from 0) (λ own. (tt, tt)) (λ own. b);
    definition = λ e q at h. cc;
  };
  constraints = each_of_two (λ e q. is_constraint paired paired_by (block 0) e ≡ true → MeetsEquation r q) _ _ (λ h. cc) (λ h. cc);
}

pub examples_of_inequalities : ExamplesOfInequalities
examples_of_inequalities = record {
  at_two = let p = whole_point (pos 2 ∷ []) in sloped_equilibrium free p refl (record {
    feasible = sloped_rival free p p refl (tt, tt);
    best = λ r h. from_zero _ (pos 1 *ℤ (r.den *ℤ pos 1) *ℤ pos 1) (idle_flow (minus (coordinate r 0) (ratio (pos 2) (pos 1))).top (pos 1 *ℤ (r.den *ℤ pos 1)));
  });
  not_at_one = λ h. let l = (h.solved 0 (omega arith)).best (whole_point (pos 2 ∷ [])) (sloped_rival free (whole_point (pos 1 ∷ [])) (whole_point (pos 2 ∷ [])) refl (tt, tt)) in absurd l.le;
  not_at_three = λ h. let l = (h.solved 0 (omega arith)).best (whole_point (pos 2 ∷ [])) (sloped_rival free (whole_point (pos 3 ∷ [])) (whole_point (pos 2 ∷ [])) refl (tt, tt)) in absurd l.le;
  at_bound = let p = whole_point (pos 3 ∷ []) in sloped_equilibrium (from 3) p refl (record {
    feasible = sloped_rival (from 3) p p refl (omega (arith, ints), tt);
    best = λ r h. from_zero _ (pos 1 *ℤ (r.den *ℤ pos 1) *ℤ pos 1) (upward_flow (cell r.nums 0) r.den (pos 1 *ℤ (r.den *ℤ pos 1)) (h.deviation.bounds 0 (from 3) refl refl).0);
  });
  not_below_bound = λ h. let l = ((h.solved 0 (omega arith)).feasible.deviation.bounds 0 (from 3) refl refl).0 in omega (arith, ints);
  not_above_bound = λ h. let l = (h.solved 0 (omega arith)).best (whole_point (pos 3 ∷ [])) (sloped_rival (from 3) (whole_point (pos 4 ∷ [])) (whole_point (pos 3 ∷ [])) refl (omega (arith, ints), tt)) in absurd l.le;
  no_value = λ h. h.best (whole_point (pos 0 ∷ [])) h.feasible;
  idle_at_one = let p = whole_point (pos 1 ∷ []) in record { feasible = idle_rival p p refl (tt, omega (arith, ints)); best = λ r h. omega (arith, ints) };
  idle_at_three = λ h. let l = (h.feasible.deviation.bounds 0 (up_to 2) refl refl).1 in omega (arith, ints);
  falling_at_zero = let p = whole_point (pos 0 ∷ []) in record { feasible = falling_rival p p refl; best = λ r h. from_zero _ (pos 1 *ℤ (r.den *ℤ pos 1) *ℤ pos 1) (idle_flow (minus (coordinate r 0) (ratio (pos 0) (pos 1))).top (pos 1 *ℤ (r.den *ℤ pos 1))) };
  falling_not_at_one = λ h. let l = h.best (whole_point (pos 2 ∷ [])) (falling_rival (whole_point (pos 1 ∷ [])) (whole_point (pos 2 ∷ [])) refl) in absurd l.le;
  paired_at_zero = let p = whole_point (pos 0 ∷ pos 0 ∷ []) in record { feasible = paired_rival p p refl (omega (arith, ints), tt); best = λ r h. from_zero _ (pos 1 *ℤ (r.den *ℤ pos 1) *ℤ (pos 1 *ℤ (r.den *ℤ pos 1) *ℤ pos 1)) (paired_flow (cell r.nums 0) (cell r.nums 1) r.den r.positive (h.deviation.bounds 1 (from 0) refl refl).0) };
  paired_not_at_one = λ h. let l = h.best (whole_point (pos 0 ∷ pos 0 ∷ [])) (paired_rival (whole_point (pos 0 ∷ pos 1 ∷ [])) (whole_point (pos 0 ∷ pos 0 ∷ [])) refl (omega (arith, ints), tt)) in absurd l.le;
}

-- The examples of given values and rivals.
use Rattle.std.proofs.Common.{◌≡◌, ℤ, pos, ◌*ℤ◌, true, false, [], ◌∷◌, arith, refl, sym, ap, ◌∙◌}
use Rattle.std.proofs.lemmas.Int.{ints}
use Rattle.emp_algebra.proofs.Ring.{var, lit, ◌⊗◌, by_ring}
use Rattle.emp_algebra.specs.Vector.{cell}
use Rattle.emp_num.specs.Ratio.{ratio, SameRatio}
use Rattle.emp_num.specs.Point.{Point, coordinate}
use Rattle.emp_ast.specs.Meets.{MeetsEquation, MeetsBounds}
use Rattle.emp_ast.specs.Parties.{block, owns, defines, is_constraint}
use Rattle.emp_ast.specs.Rivals.{Fits, MakesHold, IsDeviation}
use Rattle.emp_examples.specs.Small.{free, whole_point}
use Rattle.emp_examples.specs.Parties.{c_is_square, x_from_one}
use Rattle.emp_examples.specs.Rivals.{ExamplesOfGivenValues, ExamplesOfRivals, defined, not_defined, one_agent, seven_three, held, held_by}
use Rattle.emp_examples.proofs.Short.{each_of_one, each_of_two, each_of_three, below_three}

-- ---- given values
nine_holds : (c x d : ℤ) → c *ℤ pos 1 ≡ pos 9 *ℤ d → x *ℤ pos 1 ≡ pos 3 *ℤ d → c *ℤ (d *ℤ d) ≡ x *ℤ x *ℤ d
nine_holds c x d h k =
    let c_is : c ≡ pos 9 *ℤ d = omega (arith, ints) in
    let x_is : x ≡ pos 3 *ℤ d = omega (arith, ints) in
    ap (λ z. z *ℤ (d *ℤ d)) c_is ∙ (by_ring (d ∷ []) (lit (pos 9) ⊗ var 0 ⊗ (var 0 ⊗ var 0)) (lit (pos 3) ⊗ var 0 ⊗ (lit (pos 3) ⊗ var 0) ⊗ var 0) refl ∙ ap (λ z. z *ℤ z *ℤ d) (sym x_is))

pub examples_of_given_values : ExamplesOfGivenValues
examples_of_given_values = record {
  nine = record {
    fraction = omega (arith, ints);
    defined = each_of_one (λ e q. defines defined one_agent (block 0) e ≡ true → MakesHold q 0 seven_three (ratio (pos 9) (pos 1))) c_is_square (λ h r c others. nine_holds (cell r.nums 0) (cell r.nums 1) r.den c (others 1 (λ e. omega arith)));
    otherwise = λ none. absurd (none 0 c_is_square refl refl);
  };
  not_its_own = λ h. let l = h.defined 0 c_is_square refl refl seven_three refl (λ v n. refl) in omega (arith, ints);
  no_fraction = λ h. let l = h.fraction in omega (arith, ints);
  its_own = record {
    fraction = omega (arith, ints);
    defined = each_of_one (λ e q. defines not_defined one_agent (block 0) e ≡ true → MakesHold q 0 seven_three (ratio (pos 7) (pos 1))) _ (λ h. cc);
    otherwise = λ none. refl;
  };
  not_nine = λ h. let l = h.otherwise (each_of_one (λ e q. defines not_defined one_agent (block 0) e ≡ true → ⊥) _ (λ k. cc)) in omega (arith, ints);
  no_fraction_of_its_own = λ h. let l = h.fraction in omega (arith, ints);
  no_block = λ h. h;
}

-- ---- rivals
held_deviation : (p r : Point) → Fits held r → SameRatio (coordinate r 2) (coordinate p 2) → MeetsEquation r c_is_square → IsDeviation held held_by (block 0) p r
held_deviation p r fits other d = record {
  fits = fits;
  others = below_three (λ v. owns held held_by (block 0) v ≡ false → SameRatio (coordinate r v) (coordinate p v)) (λ own. cc) (λ own. cc) (λ own. other);
  bounds = each_of_three (λ v x. owns held held_by (block 0) v ≡ true → MeetsBounds r v x) free free free (λ own. (tt, tt)) (λ own. (tt, tt)) (λ own. (tt, tt));
  definition = each_of_two (λ e q. defines held held_by (block 0) e ≡ true → MeetsEquation r q) c_is_square x_from_one (λ h. d) (λ h. cc);
}

pub examples_of_rivals : ExamplesOfRivals
examples_of_rivals = record {
  at_two =
      let p = whole_point (pos 1 ∷ pos 1 ∷ pos 5 ∷ []) in
      let r = whole_point (pos 4 ∷ pos 2 ∷ pos 5 ∷ []) in
      record {
        deviation = held_deviation p r refl refl refl;
        constraints = each_of_two (λ e q. is_constraint held held_by (block 0) e ≡ true → MeetsEquation r q) c_is_square x_from_one (λ h. cc) (λ h. omega (arith, ints));
      };
  moves_another = λ h. let l = h.deviation.others 2 (omega arith) refl in omega (arith, ints);
  breaks_constraint = λ h. let l = h.constraints 1 x_from_one refl refl in omega (arith, ints);
  breaks_definition = λ h. let l = h.deviation.definition 0 c_is_square refl refl in omega (arith, ints);
  too_short = λ h. let l : 2 ≡ 3 = h.deviation.fits in omega arith;
}

-- The examples of complementarity models.
use Rattle.std.proofs.Common.{◌≡◌, ℕ, ◌<◌, pos, true, false, [], ◌∷◌, List, length, Some, arith, refl, sym, ap, subst, ◌∙◌}
use Rattle.std.specs.List.{slice_get}
use Rattle.std.proofs.lemmas.Int.{ints}
use Rattle.std.proofs.lemmas.Option.{same_Some}
use Rattle.emp_ast.specs.declared.tree.Node.{Node}
use Rattle.emp_ast.specs.declared.tree.Node.TheVariants.{Var}
use Rattle.emp_ast.specs.declared.model.Relation.TheVariants.{Equal}
use Rattle.emp_ast.specs.declared.model.Variable.{Variable}
use Rattle.emp_ast.specs.declared.annot.Block.{Block}
use Rattle.emp_ast.specs.declared.annot.Block.TheVariants.{Vi}
use Rattle.emp_ast.specs.declared.model.Model.{Model}
use Rattle.emp_ast.specs.Expression.{variable}
use Rattle.emp_ast.specs.Meets.{MeetsBounds}
use Rattle.emp_mcp.specs.Complementary.{Match, EachMatch, is_of_problem}
use Rattle.emp_mcp.specs.Target.{IsEquationOver}
use Rattle.emp_mcp.specs.Faults.{is_broken_at, is_loose, first_loose, first_variable}
use Rattle.emp_examples.specs.Small.{sum, numeral, equation, from, free, whole_point, equ, var}
use Rattle.emp_examples.specs.Complementary.{within, single, one_match, wide_model, matched_x, ExamplesOfComplementary, ExamplesOfTargets}
use Rattle.emp_examples.proofs.Short.{each_of_one, each_of_three, below_one, below_three}

only : (m : Model) (P : Match → Variable → Type 0) (q : Match) (x : Variable) → slice_get m.variables q.1.at ≡ Some x → P q x → EachMatch m (q ∷ []) P
only m P q x here h i r y at there =
    each_of_one (λ k r. (y : Variable) → slice_get m.variables r.1.at ≡ Some y → P r y) q (λ y e. subst (λ z. P q z) (same_Some x y (sym here ∙ e)) h) i r at y there

pub examples_of_complementary : ExamplesOfComplementary
examples_of_complementary = record {
  rising = let m = single (from 0) (sum (variable 0) (numeral 1)) (numeral 0) in let p = whole_point (pos 0 ∷ []) in record {
    fits = refl;
    bounds = each_of_one (λ v x. is_of_problem m (one_match ∷ []) v ≡ true → MeetsBounds p v x) (from 0) (λ o. (omega (arith, ints), tt));
    there = only m _ one_match (from 0) refl tt;
    above_low = only m _ one_match (from 0) refl (λ n. absurd (n refl));
    below_high = only m _ one_match (from 0) refl (λ n. omega (arith, ints));
  };
  not_rising_at_one = λ h. let l = h.above_low 0 one_match (from 0) refl refl (λ e. cc) in absurd l.le;
  not_exchanged = λ h. let l = h.below_high 0 one_match (from 0) refl refl (λ e. e) in absurd l.le;
  at_upper = let m = single (within 0 1) (variable 0) (numeral 2) in let p = whole_point (pos 1 ∷ []) in record {
    fits = refl;
    bounds = each_of_one (λ v x. is_of_problem m (one_match ∷ []) v ≡ true → MeetsBounds p v x) (within 0 1) (λ o. (omega (arith, ints), omega (arith, ints)));
    there = only m _ one_match (within 0 1) refl tt;
    above_low = only m _ one_match (within 0 1) refl (λ n. omega (arith, ints));
    below_high = only m _ one_match (within 0 1) refl (λ n. absurd (n refl));
  };
  not_at_lower = λ h. let l = h.below_high 0 one_match (within 0 1) refl refl (λ e. cc) in absurd l.le;
  between = let m = single (within 0 4) (variable 0) (numeral 2) in let p = whole_point (pos 2 ∷ []) in record {
    fits = refl;
    bounds = each_of_one (λ v x. is_of_problem m (one_match ∷ []) v ≡ true → MeetsBounds p v x) (within 0 4) (λ o. (omega (arith, ints), omega (arith, ints)));
    there = only m _ one_match (within 0 4) refl tt;
    above_low = only m _ one_match (within 0 4) refl (λ n. omega (arith, ints));
    below_high = only m _ one_match (within 0 4) refl (λ n. omega (arith, ints));
  };
  not_between = λ h. let l = h.above_low 0 one_match (within 0 4) refl refl (λ e. cc) in absurd l.le;
  not_beyond = λ h. let l = (h.bounds 0 (within 0 1) refl refl).1 in absurd l.le;
}

abbrev head_variable : List Node → ℕ
head_variable (Var v ∷ ns) = v.at
head_variable ns = 0

abbrev idle_count : List Block → ℕ
idle_count (Vi zeros pairs equs ∷ bs) = length zeros
idle_count bs = 0

pub examples_of_targets : ExamplesOfTargets
examples_of_targets = record {
  target = record {
    name = refl;
    variables = refl;
    equations = (
      λ q e. subst (λ r. IsEquationOver (1 ∷ 2 ∷ []) r (equation (sum (variable 1) (variable 0)) Equal (numeral 3))) (same_Some (equation (sum (variable 2) (variable 1)) Equal (numeral 3)) q e) (record {
        name = refl;
        left = record { nodes = refl; places = refl };
        right = record { nodes = refl; places = refl };
        relation = refl;
      }),
      tt,
    );
    goal = refl;
  };
  not_old_numbers = λ h. let e : ◌≡◌ {A = ℕ} 2 1 = ap head_variable (h.equations.0 _ refl).left.nodes in absurd (omega (arith, e));
  annot = refl;
  not_a_function = λ h. let e : ◌≡◌ {A = ℕ} 1 0 = ap (λ a. idle_count a.blocks) h in absurd (omega (arith, e));
  complementary = let m = wide_model (within 1 1) in let p = whole_point (pos 0 ∷ pos 1 ∷ pos 2 ∷ []) in record {
    fits = refl;
    bounds = each_of_three (λ v x. is_of_problem m (matched_x ∷ []) v ≡ true → MeetsBounds p v x) free (within 1 1) free (λ o. (tt, tt)) (λ o. (omega (arith, ints), omega (arith, ints))) (λ o. (tt, tt));
    there = only m _ matched_x free refl tt;
    above_low = only m _ matched_x free refl (λ n. omega (arith, ints));
    below_high = only m _ matched_x free refl (λ n. omega (arith, ints));
  };
  not_off_bound = λ h. let l = (h.bounds 1 (within 1 1) refl refl).1 in absurd l.le;
  unbroken = record {
    equations = each_of_one (λ i q. q.0.at < 2) matched_x (omega arith);
    variables = each_of_one (λ i q. q.1.at < 3) matched_x (omega arith);
    matches = below_one (λ i. is_broken_at (wide_model (within 1 1)) (matched_x ∷ []) i ≡ false) refl;
    all = below_three (λ v. is_loose (wide_model (within 1 1)) (matched_x ∷ []) v ≡ false) refl refl refl;
  };
  loose = first_loose 1 (below_one (λ i. is_broken_at (wide_model free) (matched_x ∷ []) i ≡ false) refl) (omega arith, refl, below_one (λ v. is_loose (wide_model free) (matched_x ∷ []) v ≡ false) refl);
  not_unbroken = λ h. let l = h.all 1 (omega arith) in cc;
  twice = first_variable 1 (equ 0, var 2) (record { first = (omega arith, refl, below_one (λ i. is_broken_at (wide_model free) (matched_x ∷ (equ 0, var 2) ∷ []) i ≡ false) refl); is = refl }) refl refl;
}

-- The test of an equation that defines an objective, and the sentence that it stands for.
use Rattle.std.proofs.Common.{◌≡◌, ℕ, Bool, true, false, ◌&&◌, not, nat_eq, Option, Some, None, refl, sym, ap, ◌∙◌}
use Rattle.std.specs.Prelude.{slice_get}
use Rattle.std.proofs.lemmas.Bool.{and_parts, and_from, false≢true, eqb-true, eq-eqb}
use Rattle.emp_ast.specs.declared.model.Relation.{Relation}
use Rattle.emp_ast.specs.declared.model.Relation.TheVariants.{Equal, AtLeast, AtMost, Nothing}
use Rattle.emp_ast.specs.declared.model.Sense.{Sense}
use Rattle.emp_ast.specs.declared.model.Equation.{Equation}
use Rattle.emp_ast.specs.declared.model.End.{End}
use Rattle.emp_ast.specs.declared.model.End.TheVariants.{Open, At}
use Rattle.emp_ast.specs.declared.model.Variable.{Variable}
use Rattle.emp_ast.specs.declared.model.Model.{Model}
use Rattle.emp_ast.specs.declared.annot.Annot.{Annot}
use Rattle.emp_ast.specs.Occurrence.{occurrences, is_summand_of}
use Rattle.emp_ast.specs.Parties.{Party, objective, is_open, has_no_bound, is_dual, is_implicit_equation, ties, is_equality, has_alone, defines_by, defines}
use Rattle.emp_ast.specs.Defines.{DefinesObjective, DefinesIsSentence}

none_true : (b : Bool) → not b ≡ true → b ≡ false
none_true true h = sym h
none_true false h = refl

true_none : (b : Bool) → b ≡ false → not b ≡ true
true_none b h = ap not h

open_end : (x : End) → is_open x ≡ true → x ≡ Open
open_end Open h = refl
open_end (At f) h = absurd (false≢true h)

equal_relation : (r : Relation) → is_equality r ≡ true → r ≡ Equal
equal_relation Equal h = refl
equal_relation AtLeast h = absurd (false≢true h)
equal_relation AtMost h = absurd (false≢true h)
equal_relation Nothing h = absurd (false≢true h)

no_bounds : (o : Option Variable) → has_no_bound o ≡ true → (x : Variable) × (o ≡ Some x) × (x.low ≡ Open) × (x.high ≡ Open)
no_bounds (Some x) h = let both = and_parts (is_open x.low) (is_open x.high) h in (x, refl, open_end x.low both.0, open_end x.high both.1)
no_bounds None h = absurd (false≢true h)

bounds_none : (o : Option Variable) (x : Variable) → o ≡ Some x → x.low ≡ Open → x.high ≡ Open → has_no_bound o ≡ true
bounds_none o x is low high = ap has_no_bound is ∙ and_from (is_open x.low) (is_open x.high) (ap is_open low) (ap is_open high)

tied : (w : ℕ) (o : Option Equation) → ties w o ≡ true → (q : Equation) × (o ≡ Some q) × (q.relation ≡ Equal) × (is_summand_of w q ≡ true)
tied w (Some q) h = let both = and_parts (is_equality q.relation) (is_summand_of w q) h in (q, refl, equal_relation q.relation both.0, both.1)
tied w None h = absurd (false≢true h)

ties_so : (w : ℕ) (o : Option Equation) (q : Equation) → o ≡ Some q → q.relation ≡ Equal → is_summand_of w q ≡ true → ties w o ≡ true
ties_so w o q is equal sum = ap (ties w) is ∙ and_from (is_equality q.relation) (is_summand_of w q) (ap is_equality equal) sum

module _ (m : Model) (a : Annot) (k : Party) (e : ℕ) where
  sentence_by : (o : Option (Sense × ℕ)) → objective m a k ≡ o → defines_by m a k e o ≡ true → DefinesObjective m a k e
  sentence_by None is h = absurd (false≢true h)
  sentence_by (Some (s, w)) is h =
      let b1 = has_no_bound (slice_get m.variables w) in
      let b2 = not (is_dual a w) in
      let b3 = nat_eq (occurrences w m.equations) 1 in
      let b4 = ties w (slice_get m.equations e) in
      let b5 = not (is_implicit_equation a e) in
      let both = and_parts (b1 && b2 && b3 && b4 && b5) (has_alone m a k e) h in
      let four = and_parts (b1 && b2 && b3 && b4) b5 both.0 in
      let three = and_parts (b1 && b2 && b3) b4 four.0 in
      let two = and_parts (b1 && b2) b3 three.0 in
      let one = and_parts b1 b2 two.0 in
      let x = no_bounds (slice_get m.variables w) one.0 in
      let q = tied w (slice_get m.equations e) three.1 in
      record {
        sense = s;
        w = w;
        objective = is;
        variable = x.0;
        is_variable = x.1;
        no_lower = x.2;
        no_upper = x.3;
        no_dual = none_true (is_dual a w) one.1;
        once = eqb-true (occurrences w m.equations) 1 two.1;
        equation = q.0;
        is_equation = q.1;
        equality = q.2;
        summand = q.3;
        explicit = none_true (is_implicit_equation a e) four.1;
        alone = both.1;
      }

  sentence_so : DefinesObjective m a k e → defines m a k e ≡ true
  sentence_so h =
      let w = h.w in
      let b1 = has_no_bound (slice_get m.variables w) in
      let b2 = not (is_dual a w) in
      let b3 = nat_eq (occurrences w m.equations) 1 in
      let b4 = ties w (slice_get m.equations e) in
      let b5 = not (is_implicit_equation a e) in
      ap (defines_by m a k e) h.objective
      ∙ and_from (b1 && b2 && b3 && b4 && b5) (has_alone m a k e)
      (and_from (b1 && b2 && b3 && b4) b5
      (and_from (b1 && b2 && b3) b4
      (and_from (b1 && b2) b3 (and_from b1 b2 (bounds_none (slice_get m.variables w) h.variable h.is_variable h.no_lower h.no_upper) (true_none (is_dual a w) h.no_dual)) (eq-eqb (occurrences w m.equations) 1 h.once))
      (ties_so w (slice_get m.equations e) h.equation h.is_equation h.equality h.summand))
      (true_none (is_implicit_equation a e) h.explicit))
      h.alone

pub defines_is_sentence : DefinesIsSentence
defines_is_sentence m a k e = (λ h. sentence_by m a k e (objective m a k) refl h, λ h. sentence_so m a k e h)

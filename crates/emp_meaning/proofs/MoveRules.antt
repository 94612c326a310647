-- The constraints of a party and their rules, one by one; a point meets the ones exactly where its coordinates obey the others.
use Rattle.std.proofs.Common.{◌≡◌, ◌⊎◌, inl, inr, ℕ, ℤ, true, false, ◌||◌, nat_eq, List, [], ◌∷◌, Some, sym, ap, subst, ◌∙◌}
use Rattle.std.specs.Prelude.{slice_get}
use Rattle.std.proofs.lemmas.Bool.{eqb-true, false≢true, cases_Bool}
use Rattle.emp_num.specs.Point.{Point}
use Rattle.emp_ast.specs.declared.tree.EquId.{EquId}
use Rattle.emp_ast.specs.declared.model.Equation.{Equation}
use Rattle.emp_ast.specs.declared.model.Model.{Model}
use Rattle.emp_ast.specs.declared.annot.Annot.{Annot}
use Rattle.emp_ast.specs.Meets.{MeetsEquation}
use Rattle.emp_ast.specs.Parties.{Party, names_equation, constraints, EachConstraint}
use Rattle.emp_ast.specs.Rivals.{Fits}
use Rattle.emp_game.specs.Game.{Rule}
use Rattle.emp_game.specs.Solved.{value_at, IsObeyed, Obeys}
use Rattle.emp_problem.specs.Left.{left}
use Rattle.emp_problem.specs.GameOf.{AreRulesOf}
use Rattle.emp_problem.specs.Class.{IsClassFile}
use Rattle.emp_meaning.specs.Laws.{left_nums}
use Rattle.emp_meaning.specs.Ties.{IsParty, Values}
use Rattle.emp_meaning.proofs.PriceLists.{EachListed, constraints_listed, constraint_named}

module _ (n : ℤ) (m : Model) (a : Annot) (k : Party) (party : IsParty a k) (class : IsClassFile m a) (values : Values n m a) where
  listed_down : (p : Point) → Fits m p → EachConstraint m a k (λ e q. MeetsEquation p q) → (es : List EquId) (rs : List Rule) → AreRulesOf n m (left m a) es rs → EachListed m a k es → Obeys rs p.den (left_nums m a p)
  listed_down p f h [] [] ro l = tt
  listed_down p f h [] (r ∷ rs) ro l = absurd ro
  listed_down p f h (e ∷ es) [] ro l = absurd ro
  listed_down p f h (e ∷ es) (r ∷ rs) ro l =
      let one = l.0 in
      let q = one.equation in (
        subst (λ rel. IsObeyed rel (value_at r.row p.den (left_nums m a p))) (sym (ro.0.relation q one.at)) ((values.meets e.at q r.row p one.at one.affine (ro.0.row q one.at) f).0 (h e.at q one.at one.is)),
        listed_down p f h es rs ro.1 l.1,
      )

  listed_up : (p : Point) → Fits m p → (es : List EquId) (rs : List Rule) → AreRulesOf n m (left m a) es rs → EachListed m a k es → Obeys rs p.den (left_nums m a p) → (e : ℕ) → names_equation es e ≡ true → (q : Equation) → slice_get m.equations e ≡ Some q → MeetsEquation p q
  listed_up p f [] [] ro l o e h q at = absurd (false≢true h)
  listed_up p f [] (r ∷ rs) ro l o e h q at = absurd ro
  listed_up p f (x ∷ es) [] ro l o e h q at = absurd ro
  listed_up p f (x ∷ es) (r ∷ rs) ro l o e h q at = go (cases_Bool (nat_eq x.at e)) (λ s. listed_up p f es rs ro.1 l.1 o.1 e s q at)
    where
      go : (nat_eq x.at e ≡ true) ⊎ (nat_eq x.at e ≡ false) → (names_equation es e ≡ true → MeetsEquation p q) → MeetsEquation p q
      go (inl s) rest =
          let here : slice_get m.equations x.at ≡ Some q = ap (slice_get m.equations) (eqb-true x.at e s) ∙ at in
          (values.meets x.at q r.row p here l.0.affine (ro.0.row q here) f).1 (subst (λ rel. IsObeyed rel (value_at r.row p.den (left_nums m a p))) (ro.0.relation q here) o.0)
      go (inr s) rest = rest (sym (ap (λ b. b || names_equation es e) s) ∙ h)

  pub obeys_down : (rs : List Rule) → AreRulesOf n m (left m a) (constraints m a k) rs → (p : Point) → Fits m p → EachConstraint m a k (λ e q. MeetsEquation p q) → Obeys rs p.den (left_nums m a p)
  obeys_down rs of p f h = listed_down p f h (constraints m a k) rs of (constraints_listed m a class k party)

  pub obeys_up : (rs : List Rule) → AreRulesOf n m (left m a) (constraints m a k) rs → (p : Point) → Fits m p → Obeys rs p.den (left_nums m a p) → EachConstraint m a k (λ e q. MeetsEquation p q)
  obeys_up rs of p f h = λ e q at is. listed_up p f (constraints m a k) rs of (constraints_listed m a class k party) h e (constraint_named m a k e is) q at

-- What a name is that is no keyword.
use Rattle.std.proofs.Common.{◌≡◌, ℕ, List, Option, Some, None, subst}
use Rattle.emp_ast.specs.declared.model.Model.{Model}
use Rattle.emp_ast.specs.declared.tree.VarId.{VarId}
use Rattle.emp_ast.specs.declared.tree.EquId.{EquId}
use Rattle.emp_ast.specs.Names.{FindsVariable, FindsEquation}
use Rattle.info_read.specs.declared.lexeme.Sort.TheVariants.{Variable, Equation, Unknown}
use Rattle.info_read.specs.Lexemes.{IsNoun, a_variable, an_equation, unknown}

module _ (m : Model) (name : List ℕ) where
  pub noun_variable : (o : Option VarId) (v : VarId) → o ≡ Some v → FindsVariable m name o → IsNoun m name (Variable v)
  noun_variable o v e h = a_variable v (subst (FindsVariable m name) e h)

  pub noun_equation : (o : Option VarId) (p : Option EquId) (e : EquId) → o ≡ None → FindsVariable m name o → p ≡ Some e → FindsEquation m name p → IsNoun m name (Equation e)
  noun_equation o p e n h q k = an_equation e (subst (FindsVariable m name) n h) (subst (FindsEquation m name) q k)

  pub noun_unknown : (o : Option VarId) (p : Option EquId) → o ≡ None → FindsVariable m name o → p ≡ None → FindsEquation m name p → IsNoun m name Unknown
  noun_unknown o p n h q k = unknown (subst (FindsVariable m name) n h) (subst (FindsEquation m name) q k)

pub ruleset nouns = (noun_variable, noun_equation, noun_unknown)

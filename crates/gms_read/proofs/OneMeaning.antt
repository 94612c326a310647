-- A text stands for one model or has one fault, and not both.
use Rattle.std.proofs.Common.{◌≡◌, ℕ, inl, inr, List, Option, None, Some, Result, Ok, Err, refl, sym, ap, subst, ◌∙◌}
use Rattle.emp_ast.specs.declared.tree.Place.{Place}
use Rattle.emp_ast.specs.declared.model.Model.{Model}
use Rattle.emp_lex.specs.declared.fault.LexFault.{LexFault}
use Rattle.emp_lex.specs.Tokens.{IsFirstFault, past, start}
use Rattle.emp_lex.proofs.Lexing.{one_fault as one_token_fault}
use Rattle.gms_grammar.specs.declared.kind.Kind.{Kind}
use Rattle.gms_grammar.specs.declared.kind.Kind.TheVariants.{Agents}
use Rattle.gms_grammar.specs.declared.lexeme.Lexeme.{Lexeme}
use Rattle.gms_grammar.specs.declared.fault.ModelFault.{ModelFault}
use Rattle.gms_grammar.specs.declared.fault.ModelFault.TheVariants.{Lex, Syntax, Undeclared, Twice, Discrete, Attribute, Function, TooLarge, Undefined, BoundsCross, NoMemory}
use Rattle.gms_grammar.specs.Nesting.{too_deep}
use Rattle.gms_grammar.specs.Grammar.{Statement, IsFileOf}
use Rattle.gms_grammar.specs.Syntax.{IsWrongAt}
use Rattle.gms_read.specs.Rules.{whole_meaning, whole_meaning_by}
use Rattle.gms_read.specs.Texts.{HasLexemes, HasStatementsOf, GivesOf, IsTooDeep, IsUngrammatical, HasFaultOf}
use Rattle.gms_read.specs.Laws.{OneModel}
use Rattle.gms_read.proofs.OneText.{one_lexemes, none_with_fault}
use Rattle.gms_grammar.proofs.Agree.{one_items}
use Rattle.gms_grammar.proofs.Places.{one_place, not_wrong}
use Rattle.gms_read.proofs.Existing.{model_or_fault}
use Rattle.gms_read.proofs.Performed.{same_drafts}

one_meaning_of : (kind : Kind) (text : List ℕ) (ss us : List Statement) → HasStatementsOf kind text ss → HasStatementsOf kind text us → whole_meaning text ss ≡ whole_meaning text us
one_meaning_of kind text ss us g h =
    let e = one_lexemes text h.lexemes g.lexemes h.has g.has in
    let file : IsFileOf kind g.lexemes us = subst (λ ts. IsFileOf kind ts us) e h.file in
    ap whole_meaning_by (same_drafts text g.lexemes g.lexemes ss us g.file file (one_items kind g.lexemes ss us g.file file))

pub one_meaning : (kind : Kind) (text : List ℕ) (r q : Result Model ModelFault) → GivesOf kind text r → GivesOf kind text q → r ≡ q
one_meaning kind text r q g h = sym g.is ∙ one_meaning_of kind text g.statements h.statements g.has h.has ∙ h.is

abbrev given : Model → Result Model ModelFault
given m = Ok m

abbrev refused : ModelFault → Result Model ModelFault
refused f = Err f

ok_one : (m n : Model) → given m ≡ given n → m ≡ n
ok_one m n e = cc

err_one : (f g : ModelFault) → refused f ≡ refused g → f ≡ g
err_one f g e = cc

ok_err : (m : Model) (f : ModelFault) → given m ≡ refused f → ⊥
ok_err m f e = cc

some_one : (p q : Place) → Some p ≡ Some q → p ≡ q
some_one p q e = cc

none_some : (p : Place) (o : Option Place) → o ≡ None → o ≡ Some p → ⊥
none_some p o e h = cc

-- ---- the layers that find faults
data View (kind : Kind) (text : List ℕ) (f : ModelFault) : Type 0 where
  of_tokens : (g : LexFault) → f ≡ Lex g → IsFirstFault text g → View kind text f
  of_levels : (p : Place) → f ≡ TooLarge p → IsTooDeep text p → View kind text f
  of_grammar : (p : Place) → f ≡ Syntax p → IsUngrammatical kind text p → View kind text f
  of_rules : GivesOf kind text (Err f) → View kind text f

view : (kind : Kind) (text : List ℕ) (f : ModelFault) → HasFaultOf kind text f → View kind text f
view kind text (Lex g) h = of_tokens g refl h
view kind text (Syntax p) h = of_grammar p refl h
view kind text (Undeclared p) h = of_rules h
view kind text (Twice p) h = of_rules h
view kind text (Discrete p) h = of_rules h
view kind text (Attribute p) h = of_rules h
view kind text (Function p) h = of_rules h
view kind text (TooLarge p) (inl h) = of_levels p refl h
view kind text (TooLarge p) (inr h) = of_rules h
view kind text (Undefined e n) h = of_rules h
view kind text (BoundsCross v n) h = of_rules h
view kind text NoMemory h = absurd h

module _ (kind : Kind) (text : List ℕ) where
  levels : (ts us : List Lexeme) (p : Place) → HasLexemes text ts → HasLexemes text us → too_deep ts ≡ Some p → too_deep us ≡ None → ⊥
  levels ts us p g h e n = none_some p (too_deep us) n (ap too_deep (one_lexemes text us ts h g) ∙ e)

  wrong : (p : Place) (ss : List Statement) → IsUngrammatical kind text p → HasStatementsOf kind text ss → ⊥
  wrong p ss h k = not_wrong kind k.lexemes ss (past start text) p k.file (subst (λ ts. IsWrongAt kind ts (past start text) p) (one_lexemes text h.lexemes k.lexemes h.has k.has) h.wrong)

  same : (f g : ModelFault) → View kind text f → View kind text g → f ≡ g
  same f g (of_tokens a e h) (of_tokens b i k) = e ∙ ap Lex (one_token_fault text a b h k) ∙ sym i
  same f g (of_tokens a e h) (of_levels q i k) = absurd (none_with_fault text k.lexemes a k.has h)
  same f g (of_tokens a e h) (of_grammar q i k) = absurd (none_with_fault text k.lexemes a k.has h)
  same f g (of_tokens a e h) (of_rules k) = absurd (none_with_fault text k.has.lexemes a k.has.has h)
  same f g (of_levels p e h) (of_tokens b i k) = absurd (none_with_fault text h.lexemes b h.has k)
  same f g (of_levels p e h) (of_levels q i k) = e ∙ ap TooLarge (some_one p q (sym h.is ∙ ap too_deep (one_lexemes text h.lexemes k.lexemes h.has k.has) ∙ k.is)) ∙ sym i
  same f g (of_levels p e h) (of_grammar q i k) = absurd (levels h.lexemes k.lexemes p h.has k.has h.is k.level)
  same f g (of_levels p e h) (of_rules k) = absurd (levels h.lexemes k.has.lexemes p h.has k.has.has h.is k.has.level)
  same f g (of_grammar p e h) (of_tokens b i k) = absurd (none_with_fault text h.lexemes b h.has k)
  same f g (of_grammar p e h) (of_levels q i k) = absurd (levels k.lexemes h.lexemes q k.has h.has k.is h.level)
  same f g (of_grammar p e h) (of_grammar q i k) =
      e ∙ ap Syntax (one_place kind k.lexemes (past start text) p q (subst (λ ts. IsWrongAt kind ts (past start text) p) (one_lexemes text h.lexemes k.lexemes h.has k.has) h.wrong) k.wrong) ∙ sym i
  same f g (of_grammar p e h) (of_rules k) = absurd (wrong p k.statements h k.has)
  same f g (of_rules h) (of_tokens b i k) = absurd (none_with_fault text h.has.lexemes b h.has.has k)
  same f g (of_rules h) (of_levels q i k) = absurd (levels k.lexemes h.has.lexemes q k.has h.has.has k.is h.has.level)
  same f g (of_rules h) (of_grammar q i k) = absurd (wrong q h.statements k h.has)
  same f g (of_rules h) (of_rules k) = err_one f g (one_meaning kind text (Err f) (Err g) h k)

  model_or : (m : Model) (f : ModelFault) → GivesOf kind text (Ok m) → View kind text f → ⊥
  model_or m f g (of_tokens a e h) = none_with_fault text g.has.lexemes a g.has.has h
  model_or m f g (of_levels p e h) = levels h.lexemes g.has.lexemes p h.has g.has.has h.is g.has.level
  model_or m f g (of_grammar p e h) = wrong p g.statements h g.has
  model_or m f g (of_rules h) = ok_err m f (one_meaning kind text (Ok m) (Err f) g h)

pub one_fault_of : (kind : Kind) (text : List ℕ) (f g : ModelFault) → HasFaultOf kind text f → HasFaultOf kind text g → f ≡ g
one_fault_of kind text f g h k = same kind text f g (view kind text f h) (view kind text g k)

pub model_not_fault : (kind : Kind) (text : List ℕ) (m : Model) (f : ModelFault) → GivesOf kind text (Ok m) → HasFaultOf kind text f → ⊥
model_not_fault kind text m f g h = model_or kind text m f g (view kind text f h)

pub one_model : OneModel
one_model = record {
  some = model_or_fault Agents;
  one = λ text m n g h. ok_one m n (one_meaning Agents text (Ok m) (Ok n) g h);
  one_fault = one_fault_of Agents;
  not_both = model_not_fault Agents;
}

-- A text of matches stands for one model with matches, or has one fault.
use Rattle.std.proofs.Common.{◌≡◌, ◌⊎◌, inl, inr, ℕ, List, Ok, Err, refl, sym, ap, ap₂, subst, ◌∙◌}
use Rattle.std.specs.Prelude.{Result}
use Rattle.emp_ast.specs.declared.tree.VarId.{VarId}
use Rattle.emp_ast.specs.declared.tree.EquId.{EquId}
use Rattle.emp_ast.specs.declared.model.Model.{Model}
use Rattle.gms_grammar.specs.declared.kind.Kind.TheVariants.{Matches}
use Rattle.gms_grammar.specs.declared.fault.ModelFault.{ModelFault}
use Rattle.gms_grammar.specs.Grammar.{IsFileOf}
use Rattle.gms_grammar.proofs.Agree.{one_items}
use Rattle.gms_read.specs.declared.draft.Draft.{Draft}
use Rattle.gms_read.specs.Rules.{Step, after_all, nothing_yet, whole_meaning_by}
use Rattle.gms_read.specs.Texts.{GivesOf, HasFaultOf}
use Rattle.gms_read.proofs.Existing.{ModelOrFault, model_or_fault}
use Rattle.gms_read.proofs.OneText.{one_lexemes}
use Rattle.gms_read.proofs.Performed.{same_drafts}
use Rattle.gms_read.proofs.OneMeaning.{one_meaning, one_fault_of, model_not_fault}
use Rattle.gms_matches.specs.Matches.{matches_in, shown}
use Rattle.gms_matches.specs.Texts.{IsMatchedText}
use Rattle.gms_matches.specs.Laws.{OneMatchedText}
use Rattle.gms_matches.proofs.Items.{items_show_matches}

abbrev given : Model → Result Model ModelFault
given m = Ok m

abbrev drafted : Draft → Step
drafted d = Ok d

ok_one : (m n : Model) → given m ≡ given n → m ≡ n
ok_one m n e = cc

draft_one : (d e : Draft) → drafted d ≡ drafted e → d ≡ e
draft_one d e h = cc

err_ok : (f : ModelFault) (m : Model) → ◌≡◌ {A = Result Model ModelFault} (Err f) (Ok m) → ⊥
err_ok f m e = cc

model_of : (text : List ℕ) (m : Model) (ms : List (EquId × VarId)) → IsMatchedText text m ms → GivesOf Matches text (Ok m)
model_of text m ms h = record { statements = h.statements; has = h.has; is = ap whole_meaning_by h.drafted ∙ h.is }

some_of : (text : List ℕ) → ModelOrFault Matches text → ((m : Model) × (ms : List (EquId × VarId)) × IsMatchedText text m ms) ⊎ ((f : ModelFault) × HasFaultOf Matches text f)
some_of text (inr h) = inr h
some_of text (inl (m, g)) = go (after_all text nothing_yet g.statements) refl g.is
  where
    go : (s : Step) → after_all text nothing_yet g.statements ≡ s → whole_meaning_by (after_all text nothing_yet g.statements) ≡ Ok m → ((m : Model) × (ms : List (EquId × VarId)) × IsMatchedText text m ms) ⊎ ((f : ModelFault) × HasFaultOf Matches text f)
    go (Ok d) e h = inl (m, matches_in text d g.statements, record { statements = g.statements; has = g.has; draft = d; drafted = e; is = sym (ap whole_meaning_by e) ∙ h; matches = refl })
    go (Err f) e h = absurd (err_ok f m (sym (ap whole_meaning_by e) ∙ h))

same_matches : (text : List ℕ) (m n : Model) (ms ns : List (EquId × VarId)) → IsMatchedText text m ms → IsMatchedText text n ns → ms ≡ ns
same_matches text m n ms ns g h =
    let e = one_lexemes text h.has.lexemes g.has.lexemes h.has.has g.has.has in
    let file : IsFileOf Matches g.has.lexemes h.statements = subst (λ ts. IsFileOf Matches ts h.statements) e h.has.file in
    let items = one_items Matches g.has.lexemes g.statements h.statements g.has.file file in
    let drafts = same_drafts text g.has.lexemes g.has.lexemes g.statements h.statements g.has.file file items in
    let draft = draft_one g.draft h.draft (sym g.drafted ∙ (drafts ∙ h.drafted)) in
    g.matches ∙ (sym (items_show_matches text g.draft g.statements) ∙ (ap₂ (λ d is. shown text d is) draft items ∙ (items_show_matches text h.draft h.statements ∙ sym h.matches)))

pub one_matched_text : OneMatchedText
one_matched_text = record {
  some = λ text. some_of text (model_or_fault Matches text);
  one = λ text m n ms ns g h. (ok_one m n (one_meaning Matches text (Ok m) (Ok n) (model_of text m ms g) (model_of text n ns h)), same_matches text m n ms ns g h);
  one_fault = one_fault_of Matches;
  not_both = λ text m ms f g h. model_not_fault Matches text m f (model_of text m ms g) h;
}

-- From the draft of a text of matches to what the text stands for.
use Rattle.std.proofs.Common.{◌≡◌, ℕ, List, Ok, ap, ◌∙◌}
use Rattle.emp_ast.specs.declared.tree.VarId.{VarId}
use Rattle.emp_ast.specs.declared.tree.EquId.{EquId}
use Rattle.emp_ast.specs.declared.model.Model.{Model}
use Rattle.gms_grammar.specs.declared.kind.Kind.TheVariants.{Matches}
use Rattle.gms_grammar.specs.declared.item.Item.{Item}
use Rattle.gms_read.specs.declared.draft.Draft.{Draft}
use Rattle.gms_read.specs.Rules.{finish}
use Rattle.gms_read.specs.Steps.{HasDraft, FinishesAs}
use Rattle.gms_matches.specs.Matches.{shown}
use Rattle.gms_matches.specs.Texts.{IsMatchedText}
use Rattle.gms_matches.proofs.Items.{items_show_matches}

pub matched_text : (text : List ℕ) (items walked : List Item) (d : Draft) (m : Model) (ms : List (EquId × VarId)) → HasDraft Matches text items d → FinishesAs (finish d) (Ok m) → ms ≡ shown text d walked → walked ≡ items → IsMatchedText text m ms
matched_text text items walked d m ms h e s w = record {
  statements = h.statements;
  has = h.has;
  draft = d;
  drafted = h.drafted;
  is = e;
  matches = s ∙ (ap (shown text d) (w ∙ h.are) ∙ items_show_matches text d h.statements);
}

-- The canonical text of an annotation stands for it.
use Rattle.std.proofs.Common.{◌≡◌, List, ℕ, sym, subst}
use Rattle.emp_ast.specs.declared.model.Model.{Model}
use Rattle.emp_ast.specs.declared.annot.Annot.{Annot}
use Rattle.info_read.specs.Texts.{IsInfoText}
use Rattle.info_print.specs.Canonical.{info_text}
use Rattle.info_print.specs.ReadsBack.{HasInfoText}
use Rattle.info_print.proofs.Words.{text_of, HasSorts, cut}
use Rattle.info_print.proofs.Rows.{info_sorts, info_items}
use Rattle.info_print.proofs.Sound.{lexemes_good, annot_good}
use Rattle.info_print.proofs.Printed.{info_said}

pub reads_back : (m : Model) (a : Annot) (text : List ℕ) → text ≡ info_text m a → HasInfoText m a → IsInfoText text m a
reads_back m a text e h =
    let g = annot_good m h.is.stands.items (lexemes_good m h.text h.is.lexemes h.is.has) in
    let s = info_said m a g in
    let c : HasSorts m (info_text m a) (info_sorts a) = subst (λ x. HasSorts m x (info_sorts a)) s.text_is (subst (HasSorts m (text_of s.words)) s.sorts_are (cut m s.words s.are)) in
    subst (λ x. IsInfoText x m a) (sym e) (record { lexemes = c.lexemes; has = c.has; stands = record { items = info_items a g.head g.full c.lexemes c.sorts; has_block = h.is.stands.has_block } })

-- An annotation has no more blocks than its text has bytes.
use Rattle.std.proofs.Common.{◌≡◌, ℕ, suc, ◌+◌, ◌<◌, ◌≤◌, List, [], ◌∷◌, length, drop, take, Option, None, refl, ap, arith, length-append}
use Rattle.std.proofs.lemmas.List.{length-drop}
use Rattle.emp_ast.specs.declared.tree.Place.{Place}
use Rattle.emp_ast.specs.declared.model.Model.{Model}
use Rattle.emp_ast.specs.declared.annot.Annot.{Annot}
use Rattle.emp_lex.specs.declared.token.Token.{Token}
use Rattle.emp_lex.specs.declared.fault.LexFault.{LexFault}
use Rattle.emp_lex.specs.Tokens.{Reads, at_end, skipped, taken, stopped, too_wide, is_line_start, past, start}
use Rattle.emp_lex.proofs.TokenForms.{step_formed}
use Rattle.emp_lex.proofs.Longest.{form_some}
use Rattle.info_read.specs.declared.lexeme.Lexeme.{Lexeme}
use Rattle.info_read.specs.Lexemes.{AreLexemes}
use Rattle.info_read.specs.Grammar.{Item, block, duals, visols, implicits, IsItem, is_agent, is_vi, are_duals, are_visols, are_implicits, with_item, HasItems, equilibrium, bilevel, one_item_more}
use Rattle.info_read.specs.Texts.{IsInfoText}

tokens_fit : (at : ℕ) (p : Place) (bs : List ℕ) (ts : List Token) (end : Option LexFault) → Reads at p bs ts end → length ts ≤ length bs
tokens_fit at p bs ts end (at_end k q) = omega arith
tokens_fit at p bs ts end (skipped k q b cs size us e step rest) = omega (arith, tokens_fit (k + size) (past q (take size (b ∷ cs))) (drop size (b ∷ cs)) us e rest, length-drop size (b ∷ cs))
tokens_fit at p bs ts end (taken k q b cs kind size us e step narrow rest) =
    let f = step_formed (is_line_start q) (b ∷ cs) kind size (omega arith) step in
    omega (arith, tokens_fit (k + size) (past q (take size (b ∷ cs))) (drop size (b ∷ cs)) us e rest, length-drop size (b ∷ cs), f.size, form_some kind f.part f.form)
tokens_fit at p bs ts end (stopped k q b cs defect step) = omega arith
tokens_fit at p bs ts end (too_wide k q b cs kind size step wide) = omega arith

lexemes_count : (text : List ℕ) (m : Model) (ks : List Token) (ts : List Lexeme) → AreLexemes text m ks ts → length ts ≡ length ks
lexemes_count text m [] [] h = refl
lexemes_count text m (k ∷ ks) (t ∷ ts) h = ap suc (lexemes_count text m ks ts h.1)
lexemes_count text m [] (t ∷ ts) h = absurd h
lexemes_count text m (k ∷ ks) [] h = absurd h

item_some : (us : List Lexeme) (i : Item) → IsItem us i → 0 < length us
item_some us i (is_agent k t sense objective ts ws vs es a b c d) = omega arith
item_some us i (is_vi k ts ws xs vs ps es a b c d e) = omega arith
item_some us i (are_duals k ts ps a b c) = omega arith
item_some us i (are_visols k ts es a b c) = omega arith
item_some us i (are_implicits k ts ps a b c) = omega arith

item_adds : (a : Annot) (i : Item) → length (with_item a i).blocks ≤ length a.blocks + 1
item_adds a (block b) = omega (arith, length-append a.blocks (b ∷ []))
item_adds a (duals ps) = omega arith
item_adds a (visols es) = omega arith
item_adds a (implicits ps) = omega arith

items_fit : (ts : List Lexeme) (a : Annot) → HasItems ts a → length a.blocks ≤ length ts
items_fit ts a (equilibrium t s) = omega arith
items_fit ts a (bilevel t us leader s h) = omega arith
items_fit ts a (one_item_more us ws b i h k) = omega (arith, items_fit us b h, item_some ws i k, item_adds b i, length-append us ws)

pub blocks_fit : (text : List ℕ) (m : Model) (a : Annot) → IsInfoText text m a → length a.blocks ≤ length text
blocks_fit text m a t = omega (arith, tokens_fit 0 start text t.has.tokens None t.has.cut, lexemes_count text m t.has.tokens t.lexemes t.has.are, items_fit t.lexemes a t.stands.items)

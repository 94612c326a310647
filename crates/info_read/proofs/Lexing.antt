-- Tokens as lexemes.
use Rattle.std.proofs.Common.{ℕ, ◌+◌, ◌<◌, ◌≤◌, List, [], ◌∷◌, ◌++◌, length, take, get_or, sym, subst}
use Rattle.std.proofs.lemmas.List.{take_more, take_all}
use Rattle.emp_ast.specs.declared.model.Model.{Model}
use Rattle.emp_lex.specs.declared.token.Token.{Token}
use Rattle.info_read.specs.declared.lexeme.Lexeme.{Lexeme}
use Rattle.info_read.specs.Lexemes.{IsLexeme, AreLexemes}

module _ (text : List ℕ) (m : Model) where
  are_push : (ks : List Token) (ts : List Lexeme) (k : Token) (t : Lexeme) → AreLexemes text m ks ts → IsLexeme text m k t → AreLexemes text m (ks ++ k ∷ []) (ts ++ t ∷ [])
  are_push [] [] k t h x = (x, tt)
  are_push [] (u ∷ ts) k t h x = absurd h
  are_push (j ∷ ks) [] k t h x = absurd h
  are_push (j ∷ ks) (u ∷ ts) k t h x = (h.0, are_push ks ts k t h.1 x)

  pub are_more : (ks : List Token) (i : ℕ) (ts : List Lexeme) (d : Token) (t : Lexeme) → i < length ks → AreLexemes text m (take i ks) ts → IsLexeme text m (get_or ks i d) t → AreLexemes text m (take (i + 1) ks) (ts ++ t ∷ [])
  are_more ks i ts d t l h x = subst (λ ys. AreLexemes text m ys (ts ++ t ∷ [])) (sym (take_more ks i d l)) (are_push (take i ks) ts (get_or ks i d) t h x)

  pub are_all : (ks : List Token) (i : ℕ) (ts : List Lexeme) → length ks ≤ i → AreLexemes text m (take i ks) ts → AreLexemes text m ks ts
  are_all ks i ts l h = subst (λ ys. AreLexemes text m ys ts) (take_all i ks l) h

pub ruleset collecting = (are_all)

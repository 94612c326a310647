-- Tokens as lexemes.
use Rattle.std.proofs.Common.{◌≡◌, ℕ, ◌+◌, ◌<◌, ◌≤◌, Bool, true, false, ℤ, List, [], ◌∷◌, ◌++◌, length, All, Option, take, drop, get_or, refl, sym, ap, subst, ◌∙◌}
use Rattle.std.specs.Prelude.{Result, Ok, Err, is_ok, slice_range}
use Rattle.std.proofs.lemmas.List.{take_more, take_all}
use Rattle.std.proofs.lemmas.List.Elements.{All-nil, All-cons}
use Rattle.emp_num.specs.declared.frac.Frac.{Frac}
use Rattle.emp_numeral.specs.declared.numeral.NumeralFault.{NumeralFault}
use Rattle.emp_numeral.specs.declared.numeral.NumeralFault.TheVariants.{Form, Wide}
use Rattle.emp_numeral.specs.Numeral.{NumeralGives, FormGives, numeral_form}
use Rattle.emp_ast.specs.declared.tree.Place.{Place}
use Rattle.emp_lex.specs.declared.token.Token.{Token}
use Rattle.emp_lex.specs.declared.fault.LexFault.{LexFault}
use Rattle.emp_lex.specs.Tokens.{Reads, at_end, skipped, taken, stopped, too_wide, IsTokenList, IsTooWide}
use Rattle.emp_lex.proofs.Lexing.{slice_is}
use Rattle.emp_lex.proofs.TokenBytes.{behind_is}
use Rattle.gms_grammar.specs.declared.lexeme.Lexeme.{Lexeme}
use Rattle.gms_grammar.specs.Lexemes.{IsLexeme, AreLexemes}

-- ---- numerals
gives_ok : (t : Bool) (m : ℕ) (s : ℤ) (r : Result Frac NumeralFault) → t ≡ true → (FormGives t m s (Err Wide) → ⊥) → FormGives t m s r → is_ok r ≡ true
gives_ok true m s (Ok f) e n h = refl
gives_ok true m s (Err Form) e n h = absurd h
gives_ok true m s (Err Wide) e n h = absurd (n h)
gives_ok false m s r e n h = cc

-- a numeral of which no number is too wide is read
pub numeral_read : (bs : List ℕ) (r : Result Frac NumeralFault) → NumeralGives bs r → numeral_form bs ≡ true → (NumeralGives bs (Err Wide) → ⊥) → is_ok r ≡ true
numeral_read bs r h e n = gives_ok (numeral_form bs) _ _ r e n h

pub ruleset reading = (numeral_read)

-- ---- tokens
abbrev pub IsNarrow : List ℕ → Token → Type 0
IsNarrow text t = IsTooWide t.kind (slice_range text t.from t.to) → ⊥

narrow_from : (text : List ℕ) {at : ℕ} {p : Place} {left : List ℕ} {ts : List Token} {end : Option LexFault} → Reads at p left ts end → drop at text ≡ left → All (IsNarrow text) ts
narrow_from text (at_end at p) e = All-nil (IsNarrow text)
narrow_from text (skipped at p b bs size ts end s r) e = narrow_from text r (behind_is text at size b bs e)
narrow_from text (taken at p b bs kind size ts end s n r) e =
    All-cons (IsNarrow text) (record { kind = kind; from = at; to = at + size; place = p }) ts
    (subst (λ y. IsTooWide kind y → ⊥) (sym (slice_is text at size ∙ ap (take size) e)) n)
    (narrow_from text r (behind_is text at size b bs e))
narrow_from text (stopped at p b bs defect s) e = All-nil (IsNarrow text)
narrow_from text (too_wide at p b bs kind size s w) e = All-nil (IsNarrow text)

pub tokens_narrow : (text : List ℕ) (ts : List Token) → IsTokenList text ts → All (IsNarrow text) ts
tokens_narrow text ts h = narrow_from text h refl

-- ---- lexemes
are_push : (text : List ℕ) (ks : List Token) (ts : List Lexeme) (k : Token) (t : Lexeme) → AreLexemes text ks ts → IsLexeme text k t → AreLexemes text (ks ++ k ∷ []) (ts ++ t ∷ [])
are_push text [] [] k t h x = (x, tt)
are_push text [] (u ∷ ts) k t h x = absurd h
are_push text (j ∷ ks) [] k t h x = absurd h
are_push text (j ∷ ks) (u ∷ ts) k t h x = (h.0, are_push text ks ts k t h.1 x)

pub are_more : (text : List ℕ) (ks : List Token) (i : ℕ) (ts : List Lexeme) (d : Token) (t : Lexeme) → i < length ks → AreLexemes text (take i ks) ts → IsLexeme text (get_or ks i d) t → AreLexemes text (take (i + 1) ks) (ts ++ t ∷ [])
are_more text ks i ts d t l h x = subst (λ ys. AreLexemes text ys (ts ++ t ∷ [])) (sym (take_more ks i d l)) (are_push text (take i ks) ts (get_or ks i d) t h x)

pub are_all : (text : List ℕ) (ks : List Token) (i : ℕ) (ts : List Lexeme) → length ks ≤ i → AreLexemes text (take i ks) ts → AreLexemes text ks ts
are_all text ks i ts l h = subst (λ ys. AreLexemes text ys ts) (take_all i ks l) h

pub ruleset collecting = (are_all)

-- A text has at most one list of lexemes.
use Rattle.std.proofs.Common.{◌≡◌, ℕ, ℤ, pos, negsuc, ◌<ℤ◌, suc, Bool, true, false, List, [], ◌∷◌, arith, refl, sym, ap, subst, ◌∙◌}
use Rattle.std.proofs.lemmas.Int.{ints}
use Rattle.std.specs.Prelude.{Ok, slice_range}
use Rattle.std.proofs.Math.Nat.{one-le-pow}
use Rattle.emp_num.specs.declared.frac.Frac.{Frac}
use Rattle.emp_numeral.specs.Numeral.{top_of, bottom_of, FormGives, NumeralGives}
use Rattle.emp_num.proofs.FracOrder.{one_value}
use Rattle.emp_lex.specs.declared.token.Token.{Token}
use Rattle.emp_lex.specs.declared.token.TokenKind.{TokenKind}
use Rattle.emp_lex.specs.declared.token.TokenKind.TheVariants.{Name as IsName, Numeral as IsNumeral, Text as IsText, Relation as IsRelation, Symbol as IsSymbol}
use Rattle.emp_lex.specs.declared.fault.LexFault.{LexFault}
use Rattle.emp_lex.specs.Tokens.{IsFirstFault}
use Rattle.emp_lex.proofs.Lexing.{one_list, not_both}
use Rattle.gms_grammar.specs.declared.lexeme.Sort.{Sort}
use Rattle.gms_grammar.specs.declared.lexeme.Sort.TheVariants.{Numeral}
use Rattle.gms_grammar.specs.declared.lexeme.Lexeme.{Lexeme}
use Rattle.gms_grammar.specs.Lexemes.{spelling, IsSort, IsLexeme, AreLexemes}
use Rattle.gms_read.specs.Texts.{HasLexemes}

-- ---- a numeral has one value
bottom_above : (s : ℤ) → pos 0 <ℤ pos (bottom_of s)
bottom_above (pos n) = omega (arith, ints)
bottom_above (negsuc n) = let h = one-le-pow (suc n) 10 (omega arith) in omega (arith, ints, h)

form_one : (t : Bool) (m : ℕ) (s : ℤ) (f g : Frac) → FormGives t m s (Ok f) → FormGives t m s (Ok g) → f ≡ g
form_one true m s f g h k = one_value (pos (top_of m s)) (pos (bottom_of s)) f g (bottom_above s) h.0 k.0
form_one false m s f g h k = absurd h

pub numeral_one : (bs : List ℕ) (f g : Frac) → NumeralGives bs (Ok f) → NumeralGives bs (Ok g) → f ≡ g
numeral_one bs f g h k = form_one _ _ _ f g h k

-- ---- a token is one lexeme
pub sort_one : (k : TokenKind) (bs : List ℕ) (r s : Sort) → IsSort k bs r → IsSort k bs s → r ≡ s
sort_one IsName bs r s h k = h ∙ sym k
sort_one IsNumeral bs r s h k = h.1 ∙ ap Numeral (numeral_one bs h.0 k.0 h.2 k.2) ∙ sym k.1
sort_one IsText bs r s h k = h ∙ sym k
sort_one IsRelation bs r s h k = h ∙ sym k
sort_one IsSymbol bs r s h k = h ∙ sym k

lexeme_eq : (t u : Lexeme) → t.sort ≡ u.sort → t.from ≡ u.from → t.to ≡ u.to → t.place ≡ u.place → t ≡ u
lexeme_eq t u a b c d = λ i. record { sort = a i; from = b i; to = c i; place = d i }

pub lexeme_one : (text : List ℕ) (k : Token) (t u : Lexeme) → IsLexeme text k t → IsLexeme text k u → t ≡ u
lexeme_one text k t u g h =
    let from : t.from ≡ u.from = g.from ∙ sym h.from in
    let to : t.to ≡ u.to = g.to ∙ sym h.to in
    let same : spelling text u ≡ spelling text t = ap (λ n. slice_range text n u.to) (sym from) ∙ ap (λ n. slice_range text t.from n) (sym to) in
    lexeme_eq t u (sort_one k.kind (spelling text t) t.sort u.sort g.sort (subst (λ bs. IsSort k.kind bs u.sort) same h.sort)) from to (g.place ∙ sym h.place)

are_one : (text : List ℕ) (ks : List Token) (ts us : List Lexeme) → AreLexemes text ks ts → AreLexemes text ks us → ts ≡ us
are_one text [] [] [] g h = refl
are_one text [] [] (u ∷ us) g h = absurd h
are_one text [] (t ∷ ts) us g h = absurd g
are_one text (k ∷ ks) [] us g h = absurd g
are_one text (k ∷ ks) (t ∷ ts) [] g h = absurd h
are_one text (k ∷ ks) (t ∷ ts) (u ∷ us) g h = ap (λ x. x ∷ ts) (lexeme_one text k t u g.0 h.0) ∙ ap (λ x. u ∷ x) (are_one text ks ts us g.1 h.1)

-- ---- a text is one list of lexemes
pub one_lexemes : (text : List ℕ) (ts us : List Lexeme) → HasLexemes text ts → HasLexemes text us → ts ≡ us
one_lexemes text ts us g h =
    let same : h.tokens ≡ g.tokens = one_list text h.tokens g.tokens h.cut g.cut in
    are_one text g.tokens ts us g.are (subst (λ ks. AreLexemes text ks us) same h.are)

-- and none, if it has a fault
pub none_with_fault : (text : List ℕ) (ts : List Lexeme) (f : LexFault) → HasLexemes text ts → IsFirstFault text f → ⊥
none_with_fault text ts f h k = not_both text h.tokens f h.cut k

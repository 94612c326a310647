-- A text of a model of distinct names has one list of lexemes, and so one annotation or one fault.
use Rattle.std.proofs.Common.{◌≡◌, ℕ, List, [], ◌∷◌, Option, Some, None, refl, sym, ap, subst, ◌∙◌, slice_range}
use Rattle.emp_ast.specs.declared.model.Model.{Model}
use Rattle.emp_ast.specs.declared.annot.Annot.{Annot}
use Rattle.emp_ast.specs.Names.{variable_names, equation_names, Finds}
use Rattle.emp_lex.specs.declared.token.Token.{Token}
use Rattle.emp_lex.specs.declared.token.TokenKind.{TokenKind}
use Rattle.emp_lex.specs.declared.token.TokenKind.TheVariants.{Name, Numeral, Text, Relation, Symbol}
use Rattle.emp_lex.specs.declared.fault.LexFault.{LexFault}
use Rattle.emp_lex.specs.Tokens.{IsFirstFault, past, start}
use Rattle.emp_lex.proofs.Lexing.{one_list, one_fault as one_lex_fault, not_both as not_both_lex}
use Rattle.info_read.specs.declared.lexeme.Sort.{Sort}
use Rattle.info_read.specs.declared.lexeme.Sort.TheVariants.{Variable, Equation}
use Rattle.info_read.specs.declared.lexeme.Lexeme.{Lexeme}
use Rattle.info_read.specs.declared.fault.InfoFault.{InfoFault}
use Rattle.info_read.specs.declared.fault.InfoFault.TheVariants.{Lex, Syntax, Unknown as UnknownName, WrongKind, NoMemory}
use Rattle.info_read.specs.Lexemes.{keyword, IsNoun, a_variable, an_equation, unknown, IsNameSort, IsSort, AreLexemes}
use Rattle.info_read.specs.Grammar.{Stands}
use Rattle.info_read.specs.Faults.{HasFault}
use Rattle.info_read.specs.Texts.{HasLexemes, IsInfoText, HasLexemeFault, HasInfoFault}
use Rattle.info_read.specs.Laws.{AreDistinct, HasDistinctNames, OneAnnotation}
use Rattle.info_read.proofs.Agree.{one_annot}
use Rattle.info_read.proofs.Existing.{annotation_or_fault}
use Rattle.info_read.proofs.FirstFault.{one_fault, not_both}

-- ---- names
find_one : (names : List (List ℕ)) (name : List ℕ) (j k : ℕ) → AreDistinct names → Finds names name (Some j) → Finds names name (Some k) → j ≡ k
find_one names name j k d h g = d j k h.0 g.0 (h.1 ∙ sym g.1)

find_none : {A : Type 0} (names : List (List ℕ)) (name : List ℕ) (k : ℕ) → Finds names name None → Finds names name (Some k) → A
find_none names name k h g = absurd (h k [] g.0 g.1)

module _ (m : Model) (d : HasDistinctNames m) where
  noun_one : (name : List ℕ) (r s : Sort) → IsNoun m name r → IsNoun m name s → r ≡ s
  noun_one name r s (a_variable v h) (a_variable w g) = ap (λ n. Variable (record { at = n })) (find_one (variable_names m) name v.at w.at d.variables h g)
  noun_one name r s (a_variable v h) (an_equation e g f) = find_none (variable_names m) name v.at g h
  noun_one name r s (a_variable v h) (unknown g f) = find_none (variable_names m) name v.at g h
  noun_one name r s (an_equation e h k) (a_variable w g) = find_none (variable_names m) name w.at h g
  noun_one name r s (an_equation e h k) (an_equation f g l) = ap (λ n. Equation (record { at = n })) (find_one (equation_names m) name e.at f.at d.equations k l)
  noun_one name r s (an_equation e h k) (unknown g f) = find_none (equation_names m) name e.at f k
  noun_one name r s (unknown h k) (a_variable w g) = find_none (variable_names m) name w.at h g
  noun_one name r s (unknown h k) (an_equation e g l) = find_none (equation_names m) name e.at k l
  noun_one name r s (unknown h k) (unknown g f) = refl

  name_one : (o : Option Sort) (name : List ℕ) (r s : Sort) → IsNameSort m name o r → IsNameSort m name o s → r ≡ s
  name_one (Some k) name r s h g = h ∙ sym g
  name_one None name r s h g = noun_one name r s h g

  sort_one : (k : TokenKind) (bytes : List ℕ) (r s : Sort) → IsSort m k bytes r → IsSort m k bytes s → r ≡ s
  sort_one Name bytes r s h g = name_one (keyword bytes) bytes r s h g
  sort_one Numeral bytes r s h g = h ∙ sym g
  sort_one Text bytes r s h g = h ∙ sym g
  sort_one Relation bytes r s h g = h ∙ sym g
  sort_one Symbol bytes r s h g = h ∙ sym g

  lexeme_is : (t u : Lexeme) → t.sort ≡ u.sort → t.place ≡ u.place → t ≡ u
  lexeme_is t u a b = λ i. record { sort = a i; place = b i }

  are_one : (text : List ℕ) (ks : List Token) (ts us : List Lexeme) → AreLexemes text m ks ts → AreLexemes text m ks us → ts ≡ us
  are_one text [] [] [] g h = refl
  are_one text [] [] (u ∷ us) g h = absurd h
  are_one text [] (t ∷ ts) us g h = absurd g
  are_one text (k ∷ ks) [] us g h = absurd g
  are_one text (k ∷ ks) (t ∷ ts) [] g h = absurd h
  are_one text (k ∷ ks) (t ∷ ts) (u ∷ us) g h =
      let same = lexeme_is t u (sort_one k.kind (slice_range text k.from k.to) t.sort u.sort g.0.sort h.0.sort) (g.0.place ∙ sym h.0.place) in
      ap (λ x. x ∷ ts) same ∙ ap (λ x. u ∷ x) (are_one text ks ts us g.1 h.1)

  one_lexemes : (text : List ℕ) (ts us : List Lexeme) → HasLexemes text m ts → HasLexemes text m us → ts ≡ us
  one_lexemes text ts us g h =
      let same : h.tokens ≡ g.tokens = one_list text h.tokens g.tokens h.cut g.cut in
      are_one text g.tokens ts us g.are (subst (λ ks. AreLexemes text m ks us) same h.are)

  -- ---- annotations and faults
  one : (text : List ℕ) (a b : Annot) → IsInfoText text m a → IsInfoText text m b → a ≡ b
  one text a b h g = one_annot h.lexemes a b h.stands (subst (λ ts. Stands ts b) (one_lexemes text g.lexemes h.lexemes g.has h.has) g.stands)

  -- a fault is one of the tokens, or one of the lexemes
  data IsFault (text : List ℕ) : InfoFault → Type 0 where
    of_tokens : (l : LexFault) → IsFirstFault text l → IsFault text (Lex l)
    of_lexemes : (f : InfoFault) → HasLexemeFault text m f → IsFault text f

  fault : (text : List ℕ) (f : InfoFault) → HasInfoFault text m f → IsFault text f
  fault text (Lex l) h = of_tokens l h
  fault text (Syntax p) h = of_lexemes (Syntax p) h
  fault text (UnknownName p) h = of_lexemes (UnknownName p) h
  fault text (WrongKind p) h = of_lexemes (WrongKind p) h
  fault text NoMemory h = absurd h

  same_fault : (text : List ℕ) (f g : InfoFault) → HasLexemeFault text m f → HasLexemeFault text m g → f ≡ g
  same_fault text f g h k =
      one_fault (past start text) h.lexemes f g h.fault (subst (λ ts. HasFault ts (past start text) g) (one_lexemes text k.lexemes h.lexemes k.has h.has) k.fault)

  faults : (text : List ℕ) (f g : InfoFault) → IsFault text f → IsFault text g → f ≡ g
  faults text f g (of_tokens l h) (of_tokens n k) = ap Lex (one_lex_fault text l n h k)
  faults text f g (of_tokens l h) (of_lexemes x k) = absurd (not_both_lex text k.has.tokens l k.has.cut h)
  faults text f g (of_lexemes x h) (of_tokens n k) = absurd (not_both_lex text h.has.tokens n h.has.cut k)
  faults text f g (of_lexemes x h) (of_lexemes y k) = same_fault text x y h k

  never : (text : List ℕ) (a : Annot) (f : InfoFault) → IsInfoText text m a → IsFault text f → ⊥
  never text a f h (of_tokens l k) = not_both_lex text h.has.tokens l h.has.cut k
  never text a f h (of_lexemes x k) = not_both (past start text) k.lexemes a x (subst (λ ts. Stands ts a) (one_lexemes text h.lexemes k.lexemes h.has k.has) h.stands) k.fault

pub one_annotation : OneAnnotation
one_annotation = record {
  some = annotation_or_fault;
  one = λ text m a b d h g. one m d text a b h g;
  one_fault = λ text m f g d h k. faults m d text f g (fault m d text f h) (fault m d text g k);
  not_both = λ text m a f d h k. never m d text a f h (fault m d text f k);
}

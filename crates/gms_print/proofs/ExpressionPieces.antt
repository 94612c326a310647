-- Pieces of printed expressions, and the lexemes of pieces side by side.
use Rattle.std.proofs.Common.{IsTrue, All, ◌≡◌, ℕ, true, false, nat_eq, List, [], ◌∷◌, ◌++◌, length, codes, slice_index, Ok, refl, sym, ap, ◌∙◌, subst, arith, append_assoc, ne_eqb}
use Rattle.std.proofs.lemmas.List.Elements.{All-nil, All-cons}
use Rattle.emp_num.specs.declared.frac.Frac.{Frac}
use Rattle.emp_numeral.specs.Numeral.{numeral_form, NumeralGives}
use Rattle.emp_lex.specs.declared.token.TokenKind.TheVariants.{Name, Numeral, Symbol}
use Rattle.emp_lex.specs.declared.scan.Class.TheVariants.{Word}
use Rattle.emp_lex.specs.Bytes.{is_of, is_letter}
use Rattle.emp_lex.specs.Forms.{IsName, IsSymbol}
use Rattle.gms_grammar.specs.declared.lexeme.Sort.TheVariants.{Numeral as NumeralSort}
use Rattle.gms_grammar.specs.declared.lexeme.Lexeme.{Lexeme}
use Rattle.gms_grammar.specs.Lexemes.{word_sort, symbol_sort}
use Rattle.gms_print.proofs.Pieces.{Piece, rendered, IsOf, AreOf, IsGap, ends_line, SymbolEnds, Good, good_piece}
use Rattle.gms_print.proofs.ExpressionReads.{EndsOperand}

clash : false ≡ true → ⊥
clash h = cc

-- ---- single pieces
abbrev pub name_piece : List ℕ → List ℕ → Piece
name_piece bs gap = record { kind = Name; bytes = bs; sort = word_sort bs; gap = gap }

abbrev pub numeral_piece : Frac → List ℕ → List ℕ → Piece
numeral_piece f bs gap = record { kind = Numeral; bytes = bs; sort = NumeralSort f; gap = gap }

abbrev pub symbol_piece : List ℕ → List ℕ → Piece
symbol_piece bs gap = record { kind = Symbol; bytes = bs; sort = symbol_sort bs; gap = gap }

pub good_name : (bs gap behind : List ℕ) (more : List Piece) → IsName bs → IsGap gap → EndsOperand (gap ++ rendered more ++ behind) → Good behind (ends_line gap) more → Good behind false (name_piece bs gap ∷ more)
good_name bs gap behind more f g e m = good_piece false (name_piece bs gap) more (record { form = f; sort = refl; gap = g }) (λ h. absurd (clash h)) e.word m

pub good_numeral : (f : Frac) (bs gap behind : List ℕ) (more : List Piece) → numeral_form bs ≡ true → NumeralGives bs (Ok f) → IsGap gap → EndsOperand (gap ++ rendered more ++ behind) → Good behind (ends_line gap) more → Good behind false (numeral_piece f bs gap ∷ more)
good_numeral f bs gap behind more n v g e m = good_piece false (numeral_piece f bs gap) more (record { form = n; sort = (f, refl, v); gap = g }) (λ h. absurd (clash h)) (e.word, e.dot) m

pub good_symbol : (bs gap behind : List ℕ) (more : List Piece) → IsSymbol bs → IsGap gap → SymbolEnds bs (gap ++ rendered more ++ behind) → Good behind (ends_line gap) more → Good behind false (symbol_piece bs gap ∷ more)
good_symbol bs gap behind more f g e m = good_piece false (symbol_piece bs gap) more (record { form = f; sort = refl; gap = g }) (λ h. absurd (clash h)) e m

other_byte : (bs cs : List ℕ) (b : ℕ) → nat_eq (slice_index bs 0) b ≡ false → nat_eq (slice_index cs 0) b ≡ true → bs ≡ cs → ⊥
other_byte bs cs b h k e = clash (sym h ∙ ap (λ x. nat_eq (slice_index x 0) b) e ∙ k)

-- a symbol that nothing makes longer
pub ends_alone : (bs rest : List ℕ) → nat_eq (slice_index bs 0) 42 ≡ false → nat_eq (slice_index bs 0) 46 ≡ false → nat_eq (slice_index bs 0) 61 ≡ false → SymbolEnds bs rest
ends_alone bs rest h k l = record {
  star = λ e. absurd (other_byte bs (codes "*") 42 h refl e);
  dot = λ e. absurd (other_byte bs (codes ".") 46 k refl e);
  equals = λ e. absurd (other_byte bs (codes "=") 61 l refl e);
}

pub star_ends : (rest : List ℕ) → nat_eq (slice_index rest 0) 42 ≡ false → SymbolEnds (codes "*") rest
star_ends rest h = record {
  star = λ e. h;
  dot = λ e. absurd (other_byte (codes "*") (codes ".") 46 refl refl e);
  equals = λ e. absurd (other_byte (codes "*") (codes "=") 61 refl refl e);
}

pub stars_end : (rest : List ℕ) → SymbolEnds (codes "**") rest
stars_end rest = record {
  star = λ e. absurd (omega (arith, ap length e));
  dot = λ e. absurd (other_byte (codes "**") (codes ".") 46 refl refl e);
  equals = λ e. absurd (other_byte (codes "**") (codes "=") 61 refl refl e);
}

-- ---- first bytes
pub name_first : (bs rest : List ℕ) → IsName bs → nat_eq (slice_index (bs ++ rest) 0) 42 ≡ false
name_first [] rest h = absurd (clash h.letter)
name_first (b ∷ bs) rest h = ne_eqb b 42 (λ e. absurd (clash (subst (λ x. is_letter x ≡ true) e h.letter)))

pub numeral_first : (bs rest : List ℕ) → numeral_form bs ≡ true → nat_eq (slice_index (bs ++ rest) 0) 42 ≡ false
numeral_first [] rest h = absurd (clash h)
numeral_first (b ∷ bs) rest h = ne_eqb b 42 (λ e. absurd (clash (subst (λ x. numeral_form (x ∷ bs) ≡ true) e h)))

-- ---- the word `power`
pub power_name : IsName (codes "power")
power_name = record { letter = refl; bytes = word 112 (codes "ower") refl (word 111 (codes "wer") refl (word 119 (codes "er") refl (word 101 (codes "r") refl (word 114 [] refl (All-nil (λ b. IsTrue (is_of Word b))))))); short = omega arith }
  where
    word : (b : ℕ) (bs : List ℕ) → IsTrue (is_of Word b) → All (λ b. IsTrue (is_of Word b)) bs → All (λ b. IsTrue (is_of Word b)) (b ∷ bs)
    word b bs h k = All-cons (λ b. IsTrue (is_of Word b)) b bs h k

-- ---- many pieces
pub rendered_append : (ps qs : List Piece) → rendered (ps ++ qs) ≡ rendered ps ++ rendered qs
rendered_append [] qs = refl
rendered_append (p ∷ ps) qs = ap (λ x. p.bytes ++ p.gap ++ x) (rendered_append ps qs) ∙ sym (append_assoc (p.bytes ++ p.gap) (rendered ps) (rendered qs))

-- the lexemes of pieces before and behind a piece
pub record Middle (text : List ℕ) (ps : List Piece) (q : Piece) (qs : List Piece) (ts : List Lexeme) : Type 0 where
  pub front : List Lexeme
  pub at : Lexeme
  pub back : List Lexeme
  pub is : ts ≡ front ++ at ∷ back
  pub are_front : AreOf text ps front
  pub of : IsOf text q at
  pub are_back : AreOf text qs back

pub are_middle : (text : List ℕ) (ps : List Piece) (q : Piece) (qs : List Piece) (ts : List Lexeme) → AreOf text (ps ++ q ∷ qs) ts → Middle text ps q qs ts
are_middle text [] q qs [] h = absurd h
are_middle text [] q qs (t ∷ ts) h = record { front = []; at = t; back = ts; is = refl; are_front = tt; of = h.0; are_back = h.1 }
are_middle text (p ∷ ps) q qs [] h = absurd h
are_middle text (p ∷ ps) q qs (t ∷ ts) h =
    let m = are_middle text ps q qs ts h.1 in
    record { front = t ∷ m.front; at = m.at; back = m.back; is = ap (λ x. t ∷ x) m.is; are_front = (h.0, m.are_front); of = m.of; are_back = m.are_back }

pub are_none : (text : List ℕ) (ts : List Lexeme) → AreOf text [] ts → ts ≡ []
are_none text [] h = refl
are_none text (t ∷ ts) h = absurd h

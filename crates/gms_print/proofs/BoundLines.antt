-- The lines that set the bounds of a printed model.
use Rattle.std.proofs.Common.{◌≡◌, ◌⊎◌, inl, inr, ℕ, zero, suc, Bool, true, false, ℤ, pos, negsuc, neg_ℤ, ◌≤ℤ◌, unsigned_abs, List, [], ◌∷◌, ◌++◌, All, codes, decimal, slice_index, Ok, refl, sym, ap, subst, ◌∙◌, arith, append_assoc, append-nil}
use Rattle.std.proofs.lemmas.Int.{ints}
use Rattle.std.proofs.lemmas.List.Elements.{All-head, All-tail}
use Rattle.emp_num.specs.declared.frac.Frac.{Frac}
use Rattle.emp_numeral.specs.Numeral.{numeral_form, NumeralGives, FormGives}
use Rattle.emp_num.specs.Opposite.{opposite, same_size}
use Rattle.emp_num.proofs.Same.{frac_eq}
use Rattle.emp_ast.specs.declared.model.End.{End}
use Rattle.emp_ast.specs.declared.model.End.TheVariants.{Open as OpenEnd, At as AtEnd}
use Rattle.emp_ast.specs.declared.model.Variable.{Variable}
use Rattle.emp_lex.specs.Bytes.{is_letter, is_blank}
use Rattle.emp_lex.specs.Forms.{IsName}
use Rattle.gms_grammar.specs.declared.lexeme.Word.{Word}
use Rattle.gms_grammar.specs.declared.lexeme.Word.TheVariants.{Low, High}
use Rattle.gms_grammar.specs.declared.lexeme.Sign.TheVariants.{Minus}
use Rattle.gms_grammar.specs.declared.lexeme.Sort.TheVariants.{Name, Numeral, Sign, Equals, Semicolon, Dot}
use Rattle.gms_grammar.specs.declared.lexeme.Lexeme.{Lexeme}
use Rattle.gms_grammar.specs.declared.limit.Limit.TheVariants.{At}
use Rattle.gms_grammar.specs.Lexemes.{word_sort}
use Rattle.gms_grammar.specs.Nesting.{too_deep_from}
use Rattle.gms_grammar.specs.Grammar.{Statement, setting, finite, IsLimit, no_sign, with_sign, is_setting}
use Rattle.gms_print.specs.Canonical.{IsDecimal, IsNumeral, sign_text, EndLine, no_end, an_end, BoundLines, no_variables, a_variable}
use Rattle.gms_print.proofs.Pieces.{Piece, rendered, IsOf, AreOf, SymbolEnds, Good}
use Rattle.gms_print.proofs.Sound.{IsFree, IsValue, SoundEnd, SoundVariable}
use Rattle.gms_print.proofs.Effects.{SetsEnd, sets_none, sets_end, AreBounds, no_bounds, some_bounds, variable_names_of}
use Rattle.gms_print.proofs.ExpressionReads.{ReadsNumeral, NumeralsRead, EndsOperand}
use Rattle.gms_print.proofs.ExpressionPieces.{name_piece, numeral_piece, symbol_piece, good_numeral, good_symbol, ends_alone, rendered_append}
use Rattle.gms_print.proofs.Numerals.{value_not_negative, value_size, numeral_reads, exponent_reads, exponent_whole}
use Rattle.gms_print.proofs.Lines.{one, parts, none, flat, good_word, good_semicolon, ReadsLine, Lines, no_line, one_line, both_lines}
use Rattle.gms_print.proofs.NamesLines.{is_name}
use Rattle.emp_num.specs.Whole.{whole}

-- ---- numerals
form_by : (b : Bool) (m : ℕ) (s : ℤ) (f : Frac) → FormGives b m s (Ok f) → b ≡ true
form_by true m s f h = refl
form_by false m s f h = absurd h

reads_by : (t : List ℕ) (f : Frac) → NumeralGives t (Ok f) → ReadsNumeral f t
reads_by t f h = record { form = form_by (numeral_form t) _ _ f h; gives = h }

pub numerals_read : NumeralsRead
numerals_read = record {
  value = λ f t v n. (let e : t ≡ n.size = n.is ∙ ap (λ z. sign_text z ++ n.size) (value_size f v) in subst (λ x. ReadsNumeral f x) (sym e) (reads_by n.size f (let r = numeral_reads f n.size v n.decimal in r.1)));
  exponent = λ n l. record { fraction = whole n; reads = reads_by (decimal n) (whole n) (let r = exponent_reads n l in r.1); is = exponent_whole n l };
}

-- ---- opposite fractions
twice : (z : ℤ) → neg_ℤ (neg_ℤ z) ≡ z
twice (pos zero) = refl
twice (pos (suc n)) = refl
twice (negsuc n) = refl

pub twice_opposite : (f : Frac) → opposite (opposite f) ≡ f
twice_opposite f = frac_eq (opposite (opposite f)) f (twice f.num) refl

-- ---- a number behind its sign
pub record LimitPieces (f : Frac) (t : List ℕ) : Type 0 where
  pub pieces : List Piece
  pub is : rendered pieces ≡ t
  pub good : (behind : List ℕ) (more : List Piece) → EndsOperand (rendered more ++ behind) → Good behind false more → Good behind false (pieces ++ more)
  pub stands : (text : List ℕ) (ts : List Lexeme) → AreOf text pieces ts → IsLimit ts (At f)
  pub level : (text : List ℕ) (ts : List Lexeme) → AreOf text pieces ts → (us : List Lexeme) → too_deep_from 0 (ts ++ us) ≡ too_deep_from 0 us

plain : (f : Frac) (t : List ℕ) → ReadsNumeral f t → LimitPieces f t
plain f t r = record {
  pieces = numeral_piece f t [] ∷ [];
  is = append-nil (t ++ []) ∙ append-nil t;
  good = λ behind more e m. good_numeral f t [] behind more r.form r.gives (inl refl) e m;
  stands = λ text ts a. one text (numeral_piece f t []) [] (λ xs. IsLimit xs (At f)) (λ n us o b. none text (λ xs. IsLimit (n ∷ xs) (At f)) (no_sign n (At f) (finite n f o.sort)) us b) ts a;
  level = λ text ts a us. one text (numeral_piece f t []) [] (λ xs. too_deep_from 0 (xs ++ us) ≡ too_deep_from 0 us) (λ n vs o b. none text (λ xs. too_deep_from 0 (n ∷ xs ++ us) ≡ too_deep_from 0 us) (flat n (Numeral f) us o.sort refl) vs b) ts a;
}

negative : (f : Frac) (t : List ℕ) → ReadsNumeral (opposite f) t → LimitPieces f (codes "-" ++ t)
negative f t r = record {
  pieces = symbol_piece (codes "-") [] ∷ numeral_piece (opposite f) t [] ∷ [];
  is = ap (λ x. codes "-" ++ x) (append-nil (t ++ []) ∙ append-nil t);
  good = λ behind more e m.
      good_symbol (codes "-") [] behind (numeral_piece (opposite f) t [] ∷ more) (inr (inr (45, refl, refl))) (inl refl) (ends_alone (codes "-") (rendered (numeral_piece (opposite f) t [] ∷ more) ++ behind) refl refl refl)
      (good_numeral (opposite f) t [] behind more r.form r.gives (inl refl) e m);
  stands = λ text ts a.
      one text (symbol_piece (codes "-") []) (numeral_piece (opposite f) t [] ∷ []) (λ xs. IsLimit xs (At f))
      (λ g us o b. one text (numeral_piece (opposite f) t []) [] (λ xs. IsLimit (g ∷ xs) (At f))
      (λ n vs q c. none text (λ xs. IsLimit (g ∷ n ∷ xs) (At f)) (subst (λ h. IsLimit (g ∷ n ∷ []) (At h)) (twice_opposite f) (with_sign g n Minus (At (opposite f)) o.sort (finite n (opposite f) q.sort))) vs c) us b)
      ts a;
  level = λ text ts a us.
      one text (symbol_piece (codes "-") []) (numeral_piece (opposite f) t [] ∷ []) (λ xs. too_deep_from 0 (xs ++ us) ≡ too_deep_from 0 us)
      (λ g vs o b. one text (numeral_piece (opposite f) t []) [] (λ xs. too_deep_from 0 (g ∷ xs ++ us) ≡ too_deep_from 0 us)
      (λ n ws q c. none text (λ xs. too_deep_from 0 (g ∷ n ∷ xs ++ us) ≡ too_deep_from 0 us) (flat g (Sign Minus) (n ∷ us) o.sort refl ∙ flat n (Numeral (opposite f)) us q.sort refl) ws c) vs b)
      ts a;
}

-- a fraction that is not negative is a numeral's value, if its opposite is one
own_value : (f : Frac) (n : ℕ) → f.num ≡ pos n → IsValue f ⊎ IsValue (opposite f) → IsValue f
own_value f n e (inl v) = v
own_value f n e (inr v) =
    let h : pos 0 ≤ℤ neg_ℤ f.num = value_not_negative (opposite f) v in
    let z : neg_ℤ f.num ≡ f.num = omega (arith, ints, h, e) in
    subst IsValue (frac_eq (opposite f) f z refl) v

opposite_value : (f : Frac) (n : ℕ) → f.num ≡ negsuc n → IsValue f ⊎ IsValue (opposite f) → IsValue (opposite f)
opposite_value f n e (inl v) =
    let h : pos 0 ≤ℤ f.num = value_not_negative f v in
    absurd (omega (arith, ints, h, e))
opposite_value f n e (inr v) = v

limit_by : (f : Frac) (t : List ℕ) (z : ℤ) → f.num ≡ z → IsNumeral f t → IsValue f ⊎ IsValue (opposite f) → LimitPieces f t
limit_by f t (pos n) e i v = plain f t (numerals_read.value f t (own_value f n e v) i)
limit_by f t (negsuc n) e i v =
    let same : unsigned_abs f.num ≡ unsigned_abs (neg_ℤ f.num) = sym (same_size f.num) in
    let own : IsNumeral (opposite f) i.size = record {
      size = i.size;
      decimal = subst (λ k. IsDecimal k (unsigned_abs f.den) i.size) same i.decimal;
      is = ap (λ z. sign_text (neg_ℤ z) ++ i.size) (sym e);
    } in
    subst (λ x. LimitPieces f x) (sym (i.is ∙ ap (λ z. sign_text z ++ i.size) e)) (negative f i.size (numerals_read.value (opposite f) i.size (opposite_value f n e v) own))

limit_pieces : (f : Frac) (t : List ℕ) → IsNumeral f t → IsValue f ⊎ IsValue (opposite f) → LimitPieces f t
limit_pieces f t i v = limit_by f t f.num refl i v

-- ---- one line
-- the word of an end, and what is printed before its number
pub record Attribute (attribute word : List ℕ) (w : Word) : Type 0 where
  pub name : IsName attribute
  pub sort : word_sort attribute ≡ Name w
  pub bytes : (xs : List ℕ) → codes "." ++ (attribute ++ codes " " ++ (codes "= " ++ xs)) ≡ word ++ xs
  pub letter : (xs ys : List ℕ) → is_letter (slice_index (attribute ++ codes " " ++ xs ++ ys) 0) ≡ true

pub low : Attribute (codes "lo") (codes ".lo = ") Low
low = record { name = is_name (codes "lo") refl refl refl; sort = refl; bytes = λ xs. refl; letter = λ xs ys. refl }

pub high : Attribute (codes "up") (codes ".up = ") High
high = record { name = is_name (codes "up") refl refl refl; sort = refl; bytes = λ xs. refl; letter = λ xs ys. refl }

dot_ends : (rest : List ℕ) → is_letter (slice_index rest 0) ≡ true → SymbolEnds (codes ".") rest
dot_ends rest h = record {
  star = λ e. absurd (omega (arith, ap (λ bs. slice_index bs 0) e));
  dot = λ e. h;
  equals = λ e. absurd (omega (arith, ap (λ bs. slice_index bs 0) e));
}

equals_end : (rest : List ℕ) → is_blank (slice_index rest 0) ≡ true → SymbolEnds (codes "=") rest
equals_end rest h = record {
  star = λ e. absurd (omega (arith, ap (λ bs. slice_index bs 0) e));
  dot = λ e. absurd (omega (arith, ap (λ bs. slice_index bs 0) e));
  equals = λ e. h;
}

abbrev bound_pieces : List ℕ → List ℕ → List Piece → List Piece
bound_pieces name attribute limit = name_piece name [] ∷ symbol_piece (codes ".") [] ∷ name_piece attribute (codes " ") ∷ symbol_piece (codes "=") (codes " ") ∷ limit

bound_line : (name attribute word : List ℕ) (w : Word) (f : Frac) (t : List ℕ) → IsFree name → Attribute attribute word w → LimitPieces f t → Lines (name ++ word ++ t ++ codes ";\n") (λ text ss. SetsEnd text name w (AtEnd f) ss)
bound_line name attribute word w f t free a l =
    one_line (name ++ word ++ t ++ codes ";\n") (λ text ss. SetsEnd text name w (AtEnd f) ss) (bound_pieces name attribute (l.pieces ++ symbol_piece (codes ";") (codes "\n") ∷ [])) bytes_are good reads
  where
    bytes_are : rendered (bound_pieces name attribute (l.pieces ++ symbol_piece (codes ";") (codes "\n") ∷ [])) ≡ name ++ word ++ t ++ codes ";\n"
    bytes_are =
        let number_is : rendered (l.pieces ++ symbol_piece (codes ";") (codes "\n") ∷ []) ≡ t ++ codes ";\n" = rendered_append l.pieces (symbol_piece (codes ";") (codes "\n") ∷ []) ∙ ap (λ x. x ++ codes ";\n") l.is in
        (λ i. append-nil name i ++ (codes "." ++ (attribute ++ codes " " ++ (codes "= " ++ number_is i))))
        ∙ ap (λ x. name ++ x) (a.bytes (t ++ codes ";\n"))
        ∙ simp append_assoc refl

    good : (behind : List ℕ) (more : List Piece) → Good behind true more → Good behind true (bound_pieces name attribute (l.pieces ++ symbol_piece (codes ";") (codes "\n") ∷ []) ++ more)
    good behind more m =
        let number_good : Good behind false (l.pieces ++ symbol_piece (codes ";") (codes "\n") ∷ more) = l.good behind (symbol_piece (codes ";") (codes "\n") ∷ more) (record { word = refl; dot = refl }) (good_semicolon behind more m) in
        let equals_good : Good behind false (symbol_piece (codes "=") (codes " ") ∷ (l.pieces ++ symbol_piece (codes ";") (codes "\n") ∷ more)) =
        good_symbol (codes "=") (codes " ") behind (l.pieces ++ symbol_piece (codes ";") (codes "\n") ∷ more) (inr (inr (61, refl, refl))) (inr (inl refl)) (equals_end (codes " " ++ rendered (l.pieces ++ symbol_piece (codes ";") (codes "\n") ∷ more) ++ behind) refl) number_good in
        let word_good : Good behind false (name_piece attribute (codes " ") ∷ symbol_piece (codes "=") (codes " ") ∷ (l.pieces ++ symbol_piece (codes ";") (codes "\n") ∷ more)) =
        good_word false attribute (codes " ") behind (symbol_piece (codes "=") (codes " ") ∷ (l.pieces ++ symbol_piece (codes ";") (codes "\n") ∷ more)) a.name (inr (inl refl)) refl equals_good in
        let rest = rendered (symbol_piece (codes "=") (codes " ") ∷ (l.pieces ++ symbol_piece (codes ";") (codes "\n") ∷ more)) in
        let dot_good : Good behind false (symbol_piece (codes ".") [] ∷ name_piece attribute (codes " ") ∷ symbol_piece (codes "=") (codes " ") ∷ (l.pieces ++ symbol_piece (codes ";") (codes "\n") ∷ more)) =
        good_symbol (codes ".") [] behind (name_piece attribute (codes " ") ∷ symbol_piece (codes "=") (codes " ") ∷ (l.pieces ++ symbol_piece (codes ";") (codes "\n") ∷ more)) (inr (inr (46, refl, refl))) (inl refl)
        (dot_ends (attribute ++ codes " " ++ rest ++ behind) (a.letter rest behind)) word_good in
        subst (λ ps. Good behind true (bound_pieces name attribute ps)) (sym (append_assoc l.pieces (symbol_piece (codes ";") (codes "\n") ∷ []) more))
        (good_word true name [] behind (symbol_piece (codes ".") [] ∷ name_piece attribute (codes " ") ∷ symbol_piece (codes "=") (codes " ") ∷ (l.pieces ++ symbol_piece (codes ";") (codes "\n") ∷ more)) free.form (inl refl) refl dot_good)

    line : (text : List ℕ) (h d k q z : Lexeme) (us : List Lexeme) → IsOf text (name_piece name []) h → IsOf text (symbol_piece (codes ".") []) d → IsOf text (name_piece attribute (codes " ")) k → IsOf text (symbol_piece (codes "=") (codes " ")) q → AreOf text l.pieces us → IsOf text (symbol_piece (codes ";") (codes "\n")) z
        → ReadsLine (λ ss. SetsEnd text name w (AtEnd f) ss) (h ∷ d ∷ k ∷ q ∷ (us ++ z ∷ []))
    line text h d k q z us oh od ok oq b oz =
        let named : h.sort ≡ Name free.word = oh.sort ∙ free.sort in
        let worded : k.sort ≡ Name w = ok.sort ∙ a.sort in
        record {
          statement = setting h k (At f);
          stands = is_setting h d k q z us (At f) (free.word, named) od.sort (w, worded) oq.sort (l.stands text us b) oz.sort;
          are = sets_end h k f oh.bytes worded;
          level = λ ws.
              flat h (Name free.word) (d ∷ k ∷ q ∷ (us ++ z ∷ []) ++ ws) named refl
              ∙ flat d Dot (k ∷ q ∷ (us ++ z ∷ []) ++ ws) od.sort refl
              ∙ flat k (Name w) (q ∷ (us ++ z ∷ []) ++ ws) worded refl
              ∙ flat q Equals ((us ++ z ∷ []) ++ ws) oq.sort refl
              ∙ ap (too_deep_from 0) (append_assoc us (z ∷ []) ws)
              ∙ l.level text us b (z ∷ ws)
              ∙ flat z Semicolon ws oz.sort refl;
        }

    reads : (text : List ℕ) (ts : List Lexeme) → AreOf text (bound_pieces name attribute (l.pieces ++ symbol_piece (codes ";") (codes "\n") ∷ [])) ts → ReadsLine (λ ss. SetsEnd text name w (AtEnd f) ss) ts
    reads text ts x =
        one text (name_piece name []) (symbol_piece (codes ".") [] ∷ name_piece attribute (codes " ") ∷ symbol_piece (codes "=") (codes " ") ∷ (l.pieces ++ symbol_piece (codes ";") (codes "\n") ∷ [])) (ReadsLine (λ ss. SetsEnd text name w (AtEnd f) ss))
        (λ h x1 oh a1. one text (symbol_piece (codes ".") []) (name_piece attribute (codes " ") ∷ symbol_piece (codes "=") (codes " ") ∷ (l.pieces ++ symbol_piece (codes ";") (codes "\n") ∷ [])) (λ xs. ReadsLine (λ ss. SetsEnd text name w (AtEnd f) ss) (h ∷ xs))
        (λ d x2 od a2. one text (name_piece attribute (codes " ")) (symbol_piece (codes "=") (codes " ") ∷ (l.pieces ++ symbol_piece (codes ";") (codes "\n") ∷ [])) (λ xs. ReadsLine (λ ss. SetsEnd text name w (AtEnd f) ss) (h ∷ d ∷ xs))
        (λ k x3 ok a3. one text (symbol_piece (codes "=") (codes " ")) (l.pieces ++ symbol_piece (codes ";") (codes "\n") ∷ []) (λ xs. ReadsLine (λ ss. SetsEnd text name w (AtEnd f) ss) (h ∷ d ∷ k ∷ xs))
        (λ q x4 oq a4. parts text l.pieces (symbol_piece (codes ";") (codes "\n") ∷ []) (λ xs. ReadsLine (λ ss. SetsEnd text name w (AtEnd f) ss) (h ∷ d ∷ k ∷ q ∷ xs))
        (λ us x5 b a5. one text (symbol_piece (codes ";") (codes "\n")) [] (λ xs. ReadsLine (λ ss. SetsEnd text name w (AtEnd f) ss) (h ∷ d ∷ k ∷ q ∷ (us ++ xs)))
        (λ z x6 oz a6. none text (λ xs. ReadsLine (λ ss. SetsEnd text name w (AtEnd f) ss) (h ∷ d ∷ k ∷ q ∷ (us ++ z ∷ xs))) (line text h d k q z us oh od ok oq b oz) x6 a6)
        x5 a5)
        x4 a4)
        x3 a3)
        x2 a2)
        x1 a1)
        ts x

-- ---- all of them
end_line : (name attribute word : List ℕ) (w : Word) (e : End) (bytes : List ℕ) → EndLine name word e bytes → IsFree name → Attribute attribute word w → SoundEnd e → Lines bytes (λ text ss. SetsEnd text name w e ss)
end_line name attribute word w e bytes no_end free a s = no_line (λ text ss. SetsEnd text name w OpenEnd ss) (λ text. sets_none)
end_line name attribute word w e bytes (an_end f t i) free a s = bound_line name attribute word w f t free a (limit_pieces f t i s)

-- the settings of both ends
pub record SetsBoth (text : List ℕ) (v : Variable) (ss : List Statement) : Type 0 where
  pub lows : List Statement
  pub highs : List Statement
  pub is : ss ≡ lows ++ highs
  pub low_end : SetsEnd text v.name Low v.low lows
  pub high_end : SetsEnd text v.name High v.high highs

joined : (text : List ℕ) (v : Variable) (vs : List Variable) (ss rest : List Statement) → SetsBoth text v ss → AreBounds text vs rest → AreBounds text (v ∷ vs) (ss ++ rest)
joined text v vs ss rest b m = subst (λ xs. AreBounds text (v ∷ vs) xs) (sym (ap (λ x. x ++ rest) b.is ∙ append_assoc b.lows b.highs rest)) (some_bounds v vs b.lows b.highs rest b.low_end b.high_end m)

pub bound_lines : (vs : List Variable) (bytes : List ℕ) → BoundLines vs bytes → All IsFree (variable_names_of vs) → All SoundVariable vs → Lines bytes (λ text ss. AreBounds text vs ss)
bound_lines vs bytes no_variables f s = no_line (λ text ss. AreBounds text [] ss) (λ text. no_bounds)
bound_lines vs bytes (a_variable v more lows highs rest l h lines) f s =
    let free = All-head IsFree v.name (variable_names_of more) f in
    let sound = All-head SoundVariable v more s in
    both_lines (lows ++ highs) rest (λ text ss. SetsBoth text v ss) (λ text ss. AreBounds text more ss) (λ text ss. AreBounds text (v ∷ more) ss) (λ text ss others b m. joined text v more ss others b m)
    (both_lines lows highs (λ text ss. SetsEnd text v.name Low v.low ss) (λ text ss. SetsEnd text v.name High v.high ss) (λ text ss. SetsBoth text v ss) (λ text ss others b c. record { lows = ss; highs = others; is = refl; low_end = b; high_end = c })
    (end_line v.name (codes "lo") (codes ".lo = ") Low v.low lows l free low sound.low)
    (end_line v.name (codes "up") (codes ".up = ") High v.high highs h free high sound.high))
    (bound_lines more rest lines (All-tail IsFree v.name (variable_names_of more) f) (All-tail SoundVariable v more s))

-- The forms of printed expressions, each from the forms of its parts.
use Rattle.std.proofs.Common.{◌≡◌, ℕ, ◌+◌, ◌<◌, max, false, nat_eq, List, [], ◌∷◌, ◌++◌, length, codes, decimal, slice_index, slice_index_or, refl, sym, ap, ◌∙◌, subst, append_assoc, append-nil, inl, inr}
use Rattle.emp_num.specs.declared.frac.Frac.{Frac}
use Rattle.emp_ast.specs.declared.tree.Operator.{Operator}
use Rattle.emp_ast.specs.declared.tree.Operator.TheVariants.{Plus, Minus, Times, Over}
use Rattle.emp_ast.specs.Expression.{Expression, number, variable, negated, joined, power}
use Rattle.emp_lex.specs.Forms.{IsSymbol}
use Rattle.gms_grammar.specs.declared.lexeme.Lexeme.{Lexeme}
use Rattle.gms_grammar.specs.Lexemes.{word_sort, symbol_sort}
use Rattle.gms_grammar.specs.Grammar.{Written, Level, Sum, Term, Factor, Primary, Stands}
use Rattle.gms_print.specs.Canonical.{operator_text}
use Rattle.gms_print.proofs.Pieces.{Piece, rendered, AreOf, IsGap, ends_line, SymbolEnds, Good}
use Rattle.gms_print.proofs.Sound.{IsFree}
use Rattle.gms_print.proofs.ExpressionReads.{ReadsNumeral, ReadsExponent, EndsOperand, StandsFor, ReadsAt}
use Rattle.gms_print.proofs.ExpressionPieces.{name_piece, numeral_piece, symbol_piece, good_name, good_numeral, good_symbol, ends_alone, star_ends, stars_end, name_first, numeral_first, power_name, rendered_append, Middle, are_middle, are_none}
use Rattle.gms_print.proofs.ExpressionLexemes.{numeral_stands, name_stands, grouped_stands, negated_stands, left_level, right_level, operator_sort, joined_stands, raised_stands, call_stands, loosened}

-- ---- a numeral and a name
pub reads_number : (names : List (List ℕ)) (f : Frac) (t : List ℕ) → ReadsNumeral f t → ReadsAt names Primary 0 (number f) t
reads_number names f t r = record {
  pieces = λ gap. numeral_piece f t gap ∷ [];
  is = λ gap. append-nil (t ++ gap);
  good = λ gap behind more g e m. good_numeral f t gap behind more r.form r.gives g e m;
  first = λ rest. numeral_first t rest r.form;
  stands = stands;
}
  where
    stands : (gap text : List ℕ) (ts : List Lexeme) → AreOf text (numeral_piece f t gap ∷ []) ts → StandsFor names Primary 0 (number f) text ts
    stands gap text [] h = absurd h
    stands gap text (u ∷ v ∷ us) h = absurd h.1
    stands gap text (u ∷ []) h = numeral_stands names f text u h.0.sort

pub reads_variable : (names : List (List ℕ)) (k : ℕ) → k < length names → IsFree (slice_index_or names k []) → ReadsAt names Primary 0 (variable k) (slice_index_or names k [])
reads_variable names k below free = record {
  pieces = λ gap. name_piece (slice_index_or names k []) gap ∷ [];
  is = λ gap. append-nil (slice_index_or names k [] ++ gap);
  good = λ gap behind more g e m. good_name (slice_index_or names k []) gap behind more free.form g e m;
  first = λ rest. name_first (slice_index_or names k []) rest free.form;
  stands = stands;
}
  where
    stands : (gap text : List ℕ) (ts : List Lexeme) → AreOf text (name_piece (slice_index_or names k []) gap ∷ []) ts → StandsFor names Primary 0 (variable k) text ts
    stands gap text [] h = absurd h
    stands gap text (u ∷ v ∷ us) h = absurd h.1
    stands gap text (u ∷ []) h = name_stands names k free.word text u below (h.0.sort ∙ free.sort) h.0.bytes

-- ---- in parentheses
open_symbol : IsSymbol (codes "(")
open_symbol = inr (inr (40, refl, refl))

close_symbol : IsSymbol (codes ")")
close_symbol = inr (inr (41, refl, refl))

good_open : (behind : List ℕ) (more : List Piece) → Good behind false more → Good behind false (symbol_piece (codes "(") [] ∷ more)
good_open behind more m = good_symbol (codes "(") [] behind more open_symbol (inl refl) (ends_alone (codes "(") (rendered more ++ behind) refl refl refl) m

good_close : (gap behind : List ℕ) (more : List Piece) → IsGap gap → Good behind (ends_line gap) more → Good behind false (symbol_piece (codes ")") gap ∷ more)
good_close gap behind more g m = good_symbol (codes ")") gap behind more close_symbol g (ends_alone (codes ")") (gap ++ rendered more ++ behind) refl refl refl) m

abbrev grouped_pieces : List Piece → List ℕ → List Piece
grouped_pieces ps gap = symbol_piece (codes "(") [] ∷ ps ++ symbol_piece (codes ")") gap ∷ []

pub reads_grouped : {names : List (List ℕ)} {k : ℕ} {e : Expression} {t : List ℕ} → ReadsAt names Sum k e t → ReadsAt names Primary (k + 1) e (codes "(" ++ t ++ codes ")")
reads_grouped {names} {k} {e} {t} r = record {
  pieces = λ gap. grouped_pieces (r.pieces []) gap;
  is = λ gap. ap (λ x. 40 ∷ x) (rendered_append (r.pieces []) (symbol_piece (codes ")") gap ∷ []) ∙ (ap (λ x. x ++ 41 ∷ (gap ++ [])) (r.is [] ∙ append-nil t) ∙ (ap (λ x. t ++ 41 ∷ x) (append-nil gap) ∙ sym (append_assoc t (codes ")") gap))));
  good = good;
  first = λ rest. refl;
  stands = stands;
}
  where
    good : (gap behind : List ℕ) (more : List Piece) → IsGap gap → EndsOperand (gap ++ rendered more ++ behind) → Good behind (ends_line gap) more → Good behind false (grouped_pieces (r.pieces []) gap ++ more)
    good gap behind more g e m =
        let inner : Good behind false (r.pieces [] ++ symbol_piece (codes ")") gap ∷ more) = r.good [] behind (symbol_piece (codes ")") gap ∷ more) (inl refl) (record { word = refl; dot = refl }) (good_close gap behind more g m) in
        good_open behind (r.pieces [] ++ symbol_piece (codes ")") gap ∷ [] ++ more) (subst (λ ps. Good behind false ps) (sym (append_assoc (r.pieces []) (symbol_piece (codes ")") gap ∷ []) more)) inner)

    closed : (gap text : List ℕ) (o : Lexeme) (ts : List Lexeme) → o.sort ≡ symbol_sort (codes "(") → Middle text (r.pieces []) (symbol_piece (codes ")") gap) [] ts → StandsFor names Primary (k + 1) e text (o ∷ ts)
    closed gap text o ts h m =
        let same : ts ≡ m.front ++ m.at ∷ [] = m.is ∙ ap (λ b. m.front ++ m.at ∷ b) (are_none text m.back m.are_back) in
        subst (λ us. StandsFor names Primary (k + 1) e text (o ∷ us)) (sym same) (grouped_stands o m.at h m.of.sort (r.stands [] text m.front m.are_front))

    stands : (gap text : List ℕ) (ts : List Lexeme) → AreOf text (grouped_pieces (r.pieces []) gap) ts → StandsFor names Primary (k + 1) e text ts
    stands gap text [] h = absurd h
    stands gap text (o ∷ ts) h = closed gap text o ts h.0.sort (are_middle text (r.pieces []) (symbol_piece (codes ")") gap) [] ts h.1)

-- ---- behind a minus
pub reads_negated : {names : List (List ℕ)} {k : ℕ} {e : Expression} {t : List ℕ} → ReadsAt names Term k e t → ReadsAt names Sum k (negated e) (codes "-" ++ t)
reads_negated {names} {k} {e} {t} r = record {
  pieces = λ gap. symbol_piece (codes "-") [] ∷ r.pieces gap;
  is = λ gap. ap (λ x. 45 ∷ x) (r.is gap);
  good = λ gap behind more g e m. good_symbol (codes "-") [] behind (r.pieces gap ++ more) (inr (inr (45, refl, refl))) (inl refl) (ends_alone (codes "-") (rendered (r.pieces gap ++ more) ++ behind) refl refl refl) (r.good gap behind more g e m);
  first = λ rest. refl;
  stands = stands;
}
  where
    stands : (gap text : List ℕ) (ts : List Lexeme) → AreOf text (symbol_piece (codes "-") [] ∷ r.pieces gap) ts → StandsFor names Sum k (negated e) text ts
    stands gap text [] h = absurd h
    stands gap text (u ∷ ts) h = negated_stands u h.0.sort (r.stands gap text ts h.1)

-- ---- joined
abbrev operator_bytes : Operator → List ℕ
operator_bytes Plus = codes "+"
operator_bytes Minus = codes "-"
operator_bytes Times = codes "*"
operator_bytes Over = codes "/"

abbrev operator_gap : Operator → List ℕ
operator_gap Plus = codes " "
operator_gap Minus = codes " "
operator_gap Times = []
operator_gap Over = []

operator_is_gap : (op : Operator) → IsGap (operator_gap op)
operator_is_gap Plus = inr (inl refl)
operator_is_gap Minus = inr (inl refl)
operator_is_gap Times = inl refl
operator_is_gap Over = inl refl

operator_symbol : (op : Operator) → IsSymbol (operator_bytes op)
operator_symbol Plus = inr (inr (43, refl, refl))
operator_symbol Minus = inr (inr (45, refl, refl))
operator_symbol Times = inr (inr (42, refl, refl))
operator_symbol Over = inr (inr (47, refl, refl))

operator_sort_is : (op : Operator) → symbol_sort (operator_bytes op) ≡ operator_sort op
operator_sort_is Plus = refl
operator_sort_is Minus = refl
operator_sort_is Times = refl
operator_sort_is Over = refl

operator_ends : (op : Operator) (rest : List ℕ) → nat_eq (slice_index rest 0) 42 ≡ false → SymbolEnds (operator_bytes op) (operator_gap op ++ rest)
operator_ends Plus rest h = ends_alone (codes "+") (codes " " ++ rest) refl refl refl
operator_ends Minus rest h = ends_alone (codes "-") (codes " " ++ rest) refl refl refl
operator_ends Times rest h = star_ends rest h
operator_ends Over rest h = ends_alone (codes "/") rest refl refl refl

operator_starts : (op : Operator) (rest : List ℕ) → EndsOperand (operator_gap op ++ (operator_bytes op ++ rest))
operator_starts Plus rest = record { word = refl; dot = refl }
operator_starts Minus rest = record { word = refl; dot = refl }
operator_starts Times rest = record { word = refl; dot = refl }
operator_starts Over rest = record { word = refl; dot = refl }

operator_same_line : (op : Operator) → ends_line (operator_gap op) ≡ false
operator_same_line Plus = refl
operator_same_line Minus = refl
operator_same_line Times = refl
operator_same_line Over = refl

operator_text_is : (op : Operator) → operator_text op ≡ operator_gap op ++ operator_bytes op ++ operator_gap op
operator_text_is Plus = refl
operator_text_is Minus = refl
operator_text_is Times = refl
operator_text_is Over = refl

abbrev operator_piece : Operator → Piece
operator_piece op = symbol_piece (operator_bytes op) (operator_gap op)

-- (t g) (b g) (u h) as t (g b g) u h
joined_bytes : (t g b u h : List ℕ) → (t ++ g) ++ ((b ++ g) ++ (u ++ h)) ≡ ((t ++ (g ++ b ++ g)) ++ u) ++ h
joined_bytes t g b u h = simp append_assoc refl

-- the first byte of what stands behind
first_behind : {names : List (List ℕ)} {k : ℕ} {level : Level} {e : Expression} {t : List ℕ} (r : ReadsAt names level k e t) (gap behind : List ℕ) (more : List Piece) → nat_eq (slice_index (rendered (r.pieces gap ++ more) ++ behind) 0) 42 ≡ false
first_behind {t = t} r gap behind more =
    let same : rendered (r.pieces gap ++ more) ++ behind ≡ t ++ ((gap ++ rendered more) ++ behind) = ap (λ x. x ++ behind) (rendered_append (r.pieces gap) more ∙ (ap (λ x. x ++ rendered more) (r.is gap) ∙ append_assoc t gap (rendered more))) ∙ append_assoc t (gap ++ rendered more) behind in
    ap (λ x. nat_eq (slice_index x 0) 42) same ∙ r.first ((gap ++ rendered more) ++ behind)

pub reads_joined : {names : List (List ℕ)} {k l : ℕ} {e f : Expression} {t u : List ℕ} (op : Operator) → ReadsAt names (left_level op) k e t → ReadsAt names (right_level op) l f u → ReadsAt names (left_level op) (max k l) (joined op e f) (t ++ operator_text op ++ u)
reads_joined {names} {k} {l} {e} {f} {t} {u} op a b = record {
  pieces = λ gap. a.pieces (operator_gap op) ++ operator_piece op ∷ b.pieces gap;
  is = is;
  good = good;
  first = λ rest. ap (λ x. nat_eq (slice_index x 0) 42) (append_assoc (t ++ operator_text op) u rest ∙ append_assoc t (operator_text op) (u ++ rest)) ∙ a.first (operator_text op ++ (u ++ rest));
  stands = stands;
}
  where
    is : (gap : List ℕ) → rendered (a.pieces (operator_gap op) ++ operator_piece op ∷ b.pieces gap) ≡ (t ++ operator_text op ++ u) ++ gap
    is gap =
        let right = rendered (operator_piece op ∷ b.pieces gap) in
        rendered_append (a.pieces (operator_gap op)) (operator_piece op ∷ b.pieces gap)
        ∙ (ap (λ x. x ++ right) (a.is (operator_gap op))
        ∙ (ap (λ x. (t ++ operator_gap op) ++ ((operator_bytes op ++ operator_gap op) ++ x)) (b.is gap)
        ∙ (joined_bytes t (operator_gap op) (operator_bytes op) u gap
        ∙ ap (λ x. ((t ++ x) ++ u) ++ gap) (sym (operator_text_is op)))))

    good_right : (gap behind : List ℕ) (more : List Piece) → IsGap gap → EndsOperand (gap ++ rendered more ++ behind) → Good behind (ends_line gap) more → Good behind false (operator_piece op ∷ (b.pieces gap ++ more))
    good_right gap behind more g e m =
        let qs = b.pieces gap ++ more in
        let ends : SymbolEnds (operator_bytes op) (operator_gap op ++ (rendered qs ++ behind)) = operator_ends op (rendered qs ++ behind) (first_behind b gap behind more) in
        let here : SymbolEnds (operator_bytes op) (operator_gap op ++ rendered qs ++ behind) = subst (λ x. SymbolEnds (operator_bytes op) x) (sym (append_assoc (operator_gap op) (rendered qs) behind)) ends in
        good_symbol (operator_bytes op) (operator_gap op) behind qs (operator_symbol op) (operator_is_gap op) here (subst (λ x. Good behind x qs) (sym (operator_same_line op)) (b.good gap behind more g e m))

    starts : (behind : List ℕ) (more : List Piece) → EndsOperand (operator_gap op ++ rendered (operator_piece op ∷ more) ++ behind)
    starts behind more = subst (λ x. EndsOperand x) (here (operator_gap op) (operator_bytes op) (rendered more)) (operator_starts op (operator_gap op ++ (rendered more ++ behind)))
      where
        here : (g c r : List ℕ) → g ++ (c ++ (g ++ (r ++ behind))) ≡ (g ++ ((c ++ g) ++ r)) ++ behind
        here g c r = simp append_assoc refl

    good : (gap behind : List ℕ) (more : List Piece) → IsGap gap → EndsOperand (gap ++ rendered more ++ behind) → Good behind (ends_line gap) more → Good behind false ((a.pieces (operator_gap op) ++ operator_piece op ∷ b.pieces gap) ++ more)
    good gap behind more g e m =
        let qs = b.pieces gap ++ more in
        let right : Good behind (ends_line (operator_gap op)) (operator_piece op ∷ qs) = subst (λ x. Good behind x (operator_piece op ∷ qs)) (sym (operator_same_line op)) (good_right gap behind more g e m) in
        let whole : Good behind false (a.pieces (operator_gap op) ++ operator_piece op ∷ qs) = a.good (operator_gap op) behind (operator_piece op ∷ qs) (operator_is_gap op) (starts behind qs) right in
        subst (λ ps. Good behind false ps) (sym (append_assoc (a.pieces (operator_gap op)) (operator_piece op ∷ b.pieces gap) more)) whole

    both : (gap text : List ℕ) (ts : List Lexeme) → Middle text (a.pieces (operator_gap op)) (operator_piece op) (b.pieces gap) ts → StandsFor names (left_level op) (max k l) (joined op e f) text ts
    both gap text ts m =
        subst (λ us. StandsFor names (left_level op) (max k l) (joined op e f) text us) (sym m.is) (joined_stands op m.at (m.of.sort ∙ operator_sort_is op) (a.stands (operator_gap op) text m.front m.are_front) (b.stands gap text m.back m.are_back))

    stands : (gap text : List ℕ) (ts : List Lexeme) → AreOf text (a.pieces (operator_gap op) ++ operator_piece op ∷ b.pieces gap) ts → StandsFor names (left_level op) (max k l) (joined op e f) text ts
    stands gap text ts h = both gap text ts (are_middle text (a.pieces (operator_gap op)) (operator_piece op) (b.pieces gap) ts h)

-- ---- raised
good_exponent : (n : ℕ) (x : ReadsExponent n) (gap behind : List ℕ) (more : List Piece) → IsGap gap → EndsOperand (gap ++ rendered more ++ behind) → Good behind (ends_line gap) more → Good behind false (numeral_piece x.fraction (decimal n) gap ∷ more)
good_exponent n x gap behind more g e m = good_numeral x.fraction (decimal n) gap behind more x.reads.form x.reads.gives g e m

abbrev raised_pieces : List Piece → Frac → ℕ → List ℕ → List Piece
raised_pieces ps f n gap = ps ++ symbol_piece (codes "**") [] ∷ numeral_piece f (decimal n) gap ∷ []

pub reads_raised : {names : List (List ℕ)} {k : ℕ} {e : Expression} {t : List ℕ} (n : ℕ) → ReadsExponent n → ReadsAt names Primary k e t → ReadsAt names Factor k (power e n) (t ++ codes "**" ++ decimal n)
reads_raised {names} {k} {e} {t} n x r = record {
  pieces = raised_pieces (r.pieces []) x.fraction n;
  is = λ gap. rendered_append (r.pieces []) (symbol_piece (codes "**") [] ∷ numeral_piece x.fraction (decimal n) gap ∷ []) ∙ (ap (λ y. y ++ (codes "**" ++ (decimal n ++ gap ++ []))) (r.is [] ∙ append-nil t) ∙ (ap (λ y. t ++ (codes "**" ++ y)) (append-nil (decimal n ++ gap)) ∙ text t (decimal n) gap));
  good = good;
  first = λ rest. ap (λ y. nat_eq (slice_index y 0) 42) (append_assoc (t ++ codes "**") (decimal n) rest ∙ append_assoc t (codes "**") (decimal n ++ rest)) ∙ r.first (codes "**" ++ (decimal n ++ rest));
  stands = stands;
}
  where
    text : (t d gap : List ℕ) → t ++ (codes "**" ++ (d ++ gap)) ≡ (t ++ codes "**" ++ d) ++ gap
    text t d gap = sym (append_assoc (t ++ codes "**") d gap ∙ append_assoc t (codes "**") (d ++ gap))

    good : (gap behind : List ℕ) (more : List Piece) → IsGap gap → EndsOperand (gap ++ rendered more ++ behind) → Good behind (ends_line gap) more → Good behind false (raised_pieces (r.pieces []) x.fraction n gap ++ more)
    good gap behind more g e m =
        let last : Good behind false (numeral_piece x.fraction (decimal n) gap ∷ more) = good_exponent n x gap behind more g e m in
        let stars : Good behind false (symbol_piece (codes "**") [] ∷ numeral_piece x.fraction (decimal n) gap ∷ more) = good_symbol (codes "**") [] behind (numeral_piece x.fraction (decimal n) gap ∷ more) (inl refl) (inl refl) (stars_end (rendered (numeral_piece x.fraction (decimal n) gap ∷ more) ++ behind)) last in
        subst (λ ps. Good behind false ps) (sym (append_assoc (r.pieces []) (symbol_piece (codes "**") [] ∷ numeral_piece x.fraction (decimal n) gap ∷ []) more)) (r.good [] behind (symbol_piece (codes "**") [] ∷ numeral_piece x.fraction (decimal n) gap ∷ more) (inl refl) (record { word = refl; dot = refl }) stars)

    both : (gap text : List ℕ) (ts front : List Lexeme) (p : Lexeme) (back : List Lexeme) → ts ≡ front ++ p ∷ back → AreOf text (r.pieces []) front → p.sort ≡ symbol_sort (codes "**") → AreOf text (numeral_piece x.fraction (decimal n) gap ∷ []) back → StandsFor names Factor k (power e n) text ts
    both gap text ts front p [] h a s b = absurd b
    both gap text ts front p (u ∷ v ∷ us) h a s b = absurd b.1
    both gap text ts front p (u ∷ []) h a s b = subst (λ us. StandsFor names Factor k (power e n) text us) (sym h) (raised_stands p u x.fraction n s b.0.sort x.is (r.stands [] text front a))

    stands : (gap text : List ℕ) (ts : List Lexeme) → AreOf text (raised_pieces (r.pieces []) x.fraction n gap) ts → StandsFor names Factor k (power e n) text ts
    stands gap text ts h =
        let m = are_middle text (r.pieces []) (symbol_piece (codes "**") []) (numeral_piece x.fraction (decimal n) gap ∷ []) ts h in
        both gap text ts m.front m.at m.back m.is m.are_front m.of.sort m.are_back

-- ---- the call of `power`
abbrev comma_pieces : Frac → ℕ → List ℕ → List Piece
comma_pieces f n gap = symbol_piece (codes ",") [] ∷ numeral_piece f (decimal n) [] ∷ symbol_piece (codes ")") gap ∷ []

abbrev call_pieces : List Piece → Frac → ℕ → List ℕ → List Piece
call_pieces ps f n gap = name_piece (codes "power") [] ∷ symbol_piece (codes "(") [] ∷ ps ++ comma_pieces f n gap

pub reads_call : {names : List (List ℕ)} {k : ℕ} {e : Expression} {t : List ℕ} (n : ℕ) → ReadsExponent n → ReadsAt names Sum k e t → ReadsAt names Primary (k + 1) (power e n) (codes "power(" ++ t ++ codes "," ++ decimal n ++ codes ")")
reads_call {names} {k} {e} {t} n x r = record {
  pieces = call_pieces (r.pieces []) x.fraction n;
  is = is;
  good = good;
  first = λ rest. refl;
  stands = stands;
}
  where
    text : (t d gap : List ℕ) → (t ++ []) ++ (codes "," ++ ((d ++ []) ++ (codes ")" ++ gap ++ []))) ≡ (t ++ codes "," ++ d ++ codes ")") ++ gap
    text t d gap = simp (append_assoc, append-nil) refl

    is : (gap : List ℕ) → rendered (call_pieces (r.pieces []) x.fraction n gap) ≡ (codes "power(" ++ t ++ codes "," ++ decimal n ++ codes ")") ++ gap
    is gap = ap (λ y. codes "power(" ++ y) (rendered_append (r.pieces []) (comma_pieces x.fraction n gap) ∙ (ap (λ y. y ++ rendered (comma_pieces x.fraction n gap)) (r.is []) ∙ text t (decimal n) gap))

    good : (gap behind : List ℕ) (more : List Piece) → IsGap gap → EndsOperand (gap ++ rendered more ++ behind) → Good behind (ends_line gap) more → Good behind false (call_pieces (r.pieces []) x.fraction n gap ++ more)
    good gap behind more g e m =
        let close : Good behind false (symbol_piece (codes ")") gap ∷ more) = good_close gap behind more g m in
        let last : Good behind false (numeral_piece x.fraction (decimal n) [] ∷ symbol_piece (codes ")") gap ∷ more) = good_exponent n x [] behind (symbol_piece (codes ")") gap ∷ more) (inl refl) (record { word = refl; dot = refl }) close in
        let comma : Good behind false (comma_pieces x.fraction n gap ++ more) = good_symbol (codes ",") [] behind (numeral_piece x.fraction (decimal n) [] ∷ symbol_piece (codes ")") gap ∷ more) (inr (inr (44, refl, refl))) (inl refl) (ends_alone (codes ",") (rendered (numeral_piece x.fraction (decimal n) [] ∷ symbol_piece (codes ")") gap ∷ more) ++ behind) refl refl refl) last in
        let inner : Good behind false ((r.pieces [] ++ comma_pieces x.fraction n gap) ++ more) = subst (λ ps. Good behind false ps) (sym (append_assoc (r.pieces []) (comma_pieces x.fraction n gap) more)) (r.good [] behind (comma_pieces x.fraction n gap ++ more) (inl refl) (record { word = refl; dot = refl }) comma) in
        good_name (codes "power") [] behind (symbol_piece (codes "(") [] ∷ (r.pieces [] ++ comma_pieces x.fraction n gap) ++ more) power_name (inl refl) (record { word = refl; dot = refl }) (good_open behind ((r.pieces [] ++ comma_pieces x.fraction n gap) ++ more) inner)

    both : (gap text : List ℕ) (w o : Lexeme) (ts front : List Lexeme) (p : Lexeme) (back : List Lexeme) → w.sort ≡ word_sort (codes "power") → o.sort ≡ symbol_sort (codes "(") → ts ≡ front ++ p ∷ back → AreOf text (r.pieces []) front → p.sort ≡ symbol_sort (codes ",") → AreOf text (numeral_piece x.fraction (decimal n) [] ∷ symbol_piece (codes ")") gap ∷ []) back → StandsFor names Primary (k + 1) (power e n) text (w ∷ o ∷ ts)
    both gap text w o ts front p [] hw ho h a s b = absurd b
    both gap text w o ts front p (u ∷ []) hw ho h a s b = absurd b.1
    both gap text w o ts front p (u ∷ c ∷ v ∷ us) hw ho h a s b = absurd b.1.1
    both gap text w o ts front p (u ∷ c ∷ []) hw ho h a s b = subst (λ us. StandsFor names Primary (k + 1) (power e n) text (w ∷ o ∷ us)) (append_assoc front (p ∷ u ∷ []) (c ∷ []) ∙ sym h) (call_stands w o p u c x.fraction n hw ho s b.0.sort b.1.0.sort x.is (r.stands [] text front a))

    stands : (gap text : List ℕ) (ts : List Lexeme) → AreOf text (call_pieces (r.pieces []) x.fraction n gap) ts → StandsFor names Primary (k + 1) (power e n) text ts
    stands gap text [] h = absurd h
    stands gap text (w ∷ []) h = absurd h.1
    stands gap text (w ∷ o ∷ ts) h =
        let m = are_middle text (r.pieces []) (symbol_piece (codes ",") []) (numeral_piece x.fraction (decimal n) [] ∷ symbol_piece (codes ")") gap ∷ []) ts h.1.1 in
        both gap text w o ts m.front m.at m.back h.0.sort h.1.0.sort m.is m.are_front m.of.sort m.are_back

-- ---- looser levels
pub reads_looser : {names : List (List ℕ)} {k : ℕ} {level other : Level} {e : Expression} {t : List ℕ} → ((us : List Lexeme) (w : Written) → Stands level us w → Stands other us w) → ReadsAt names level k e t → ReadsAt names other k e t
reads_looser up r = record {
  pieces = r.pieces;
  is = r.is;
  good = r.good;
  first = r.first;
  stands = λ gap text ts a. loosened up (r.stands gap text ts a);
}

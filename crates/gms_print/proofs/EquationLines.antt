-- The lines that define the equations of a printed model.
use Rattle.std.proofs.Common.{◌≡◌, ℕ, ◌≤◌, true, false, List, [], ◌∷◌, ◌++◌, length, All, codes, refl, sym, ap, subst, ◌∙◌, arith, append_assoc, append-nil, inl, inr}
use Rattle.std.proofs.lemmas.List.Elements.{All-head, All-tail}
use Rattle.emp_lex.specs.declared.token.TokenKind.TheVariants.{Relation as RelationKind}
use Rattle.emp_lex.specs.Forms.{IsRelation}
use Rattle.emp_list.specs.Case.{lower}
use Rattle.emp_ast.specs.declared.tree.Tree.{Tree}
use Rattle.emp_ast.specs.declared.model.Relation.{Relation}
use Rattle.emp_ast.specs.declared.model.Relation.TheVariants.{Equal, AtLeast, AtMost, Nothing}
use Rattle.emp_ast.specs.declared.model.Equation.{Equation}
use Rattle.emp_ast.specs.Expression.{Expression, expression_of}
use Rattle.emp_ast.specs.Nodes.{nodes_from, IsTreeOf}
use Rattle.emp_ast.proofs.Nodes.{stands_of}
use Rattle.gms_grammar.specs.declared.lexeme.Sort.TheVariants.{Name, Relation as Related, Dots, Semicolon}
use Rattle.gms_grammar.specs.declared.lexeme.Lexeme.{Lexeme}
use Rattle.gms_grammar.specs.Lexemes.{relation_of}
use Rattle.gms_grammar.specs.Nesting.{too_deep_from}
use Rattle.gms_grammar.specs.Grammar.{Statement, definition, Sum, IsStatement, is_definition}
use Rattle.gms_print.specs.Canonical.{Prints, relation_text, EquationLines, no_equations, an_equation}
use Rattle.gms_print.proofs.Pieces.{Piece, rendered, IsOf, AreOf, SymbolEnds, Good, good_piece}
use Rattle.gms_print.proofs.Sound.{IsFree, SoundExpression, depth, SoundTree, SoundEquation}
use Rattle.gms_print.proofs.Effects.{Means, AreDefinitions, equation_names_of}
use Rattle.gms_print.proofs.ExpressionReads.{NumeralsRead, StandsFor, ReadsExpression}
use Rattle.gms_print.proofs.ExpressionPieces.{name_piece, symbol_piece, good_symbol, rendered_append}
use Rattle.gms_print.proofs.Expressions.{reads_expression}
use Rattle.gms_print.proofs.Lines.{one, parts, none, flat, good_word, good_semicolon, ReadsLine, Lines, no_line, one_line, both_lines}

-- ---- relations
abbrev pub relation_bytes : Relation → List ℕ
relation_bytes Equal = codes "=e="
relation_bytes AtLeast = codes "=g="
relation_bytes AtMost = codes "=l="
relation_bytes Nothing = codes "=n="

abbrev pub relation_piece : Relation → Piece
relation_piece r = record { kind = RelationKind; bytes = relation_bytes r; sort = Related (relation_of (relation_bytes r)); gap = codes " " }

relation_is : (r : Relation) → relation_of (relation_bytes r) ≡ r
relation_is Equal = refl
relation_is AtLeast = refl
relation_is AtMost = refl
relation_is Nothing = refl

relation_form : (r : Relation) → IsRelation (relation_bytes r)
relation_form Equal = record { letter = 101; is = refl; known = refl }
relation_form AtLeast = record { letter = 103; is = refl; known = refl }
relation_form AtMost = record { letter = 108; is = refl; known = refl }
relation_form Nothing = record { letter = 110; is = refl; known = refl }

spaced : (r : Relation) → codes " " ++ (relation_bytes r ++ codes " ") ≡ relation_text r
spaced Equal = refl
spaced AtLeast = refl
spaced AtMost = refl
spaced Nothing = refl

-- ---- one line
dots_end : (rest : List ℕ) → SymbolEnds (codes "..") rest
dots_end rest = record {
  star = λ e. absurd (omega (arith, ap length e));
  dot = λ e. absurd (omega (arith, ap length e));
  equals = λ e. absurd (omega (arith, ap length e));
}

line_bytes : (name dots t gap r u end : List ℕ) → name ++ [] ++ (dots ++ (t ++ gap ++ (r ++ (u ++ [] ++ end)))) ≡ name ++ dots ++ t ++ (gap ++ r) ++ u ++ end
line_bytes name dots t gap r u end = simp (append_assoc, append-nil) refl

abbrev line_pieces : List ℕ → List Piece → Relation → List Piece → List Piece
line_pieces name left r right = name_piece name [] ∷ symbol_piece (codes "..") (codes " ") ∷ (left ++ relation_piece r ∷ (right ++ symbol_piece (codes ";") (codes "\n") ∷ []))

pieces_behind : (name : List ℕ) (left : List Piece) (r : Relation) (right more : List Piece) → line_pieces name left r right ++ more ≡ name_piece name [] ∷ symbol_piece (codes "..") (codes " ") ∷ (left ++ relation_piece r ∷ (right ++ symbol_piece (codes ";") (codes "\n") ∷ more))
pieces_behind name left r right more =
    ap (λ ps. name_piece name [] ∷ symbol_piece (codes "..") (codes " ") ∷ ps)
    (append_assoc left (relation_piece r ∷ (right ++ symbol_piece (codes ";") (codes "\n") ∷ [])) more ∙ ap (λ ps. left ++ relation_piece r ∷ ps) (append_assoc right (symbol_piece (codes ";") (codes "\n") ∷ []) more))

-- the lexemes of both sides stand for their trees
pub record Side (names : List (List ℕ)) (t : Tree) (bytes : List ℕ) : Type 0 where
  pub expression : Expression
  pub is : IsTreeOf t expression
  pub shallow : depth expression ≤ 64
  pub reads : ReadsExpression names expression bytes

-- a tree is that of one expression alone
one_expression : (t : Tree) (e f : Expression) → IsTreeOf t e → IsTreeOf t f → e ≡ f
one_expression t e f p q = sym (stands_of e) ∙ ap expression_of (sym p ∙ q) ∙ stands_of f

side : (names : List (List ℕ)) (t : Tree) (e : Expression) (bytes : List ℕ) → NumeralsRead → All IsFree names → SoundTree (length names) t → IsTreeOf t e → Prints names e bytes → Side names t bytes
side names t e bytes n free s is p =
    let same : s.expression ≡ e = one_expression t s.expression e s.is is in
    record {
      expression = e;
      is = is;
      shallow = subst (λ x. depth x ≤ 64) same s.shallow;
      reads = reads_expression names e bytes n free (subst (λ x. SoundExpression (length names) x) same s.sound) p;
    }

means : (names : List (List ℕ)) (text : List ℕ) (t : Tree) (bytes : List ℕ) (ts : List Lexeme) (s : Side names t bytes) (r : StandsFor names Sum (depth s.expression) s.expression text ts) → Means names text r.written t
means names text t bytes ts s r = record {
  faultless = r.faultless;
  means = λ d k. ap (nodes_from 0) (r.means d k) ∙ sym s.is;
}

definition_line : (names : List (List ℕ)) (e : Equation) (t u : List ℕ) → IsFree e.name → Side names e.left t → Side names e.right u → Lines (e.name ++ codes ".. " ++ t ++ relation_text e.relation ++ u ++ codes ";\n") (λ text ss. AreDefinitions names text (e ∷ []) ss)
definition_line names e t u free l r =
    one_line (e.name ++ codes ".. " ++ t ++ relation_text e.relation ++ u ++ codes ";\n") (λ text ss. AreDefinitions names text (e ∷ []) ss) (line_pieces e.name (l.reads.pieces (codes " ")) e.relation (r.reads.pieces []))
    bytes_are
    good
    reads
  where
    bytes_are : rendered (line_pieces e.name (l.reads.pieces (codes " ")) e.relation (r.reads.pieces [])) ≡ e.name ++ codes ".. " ++ t ++ relation_text e.relation ++ u ++ codes ";\n"
    bytes_are =
        let right_is : rendered (r.reads.pieces [] ++ symbol_piece (codes ";") (codes "\n") ∷ []) ≡ u ++ [] ++ codes ";\n" = rendered_append (r.reads.pieces []) (symbol_piece (codes ";") (codes "\n") ∷ []) ∙ ap (λ x. x ++ codes ";\n") (r.reads.is []) in
        let left_is : rendered (l.reads.pieces (codes " ") ++ relation_piece e.relation ∷ (r.reads.pieces [] ++ symbol_piece (codes ";") (codes "\n") ∷ [])) ≡ t ++ codes " " ++ (relation_bytes e.relation ++ codes " " ++ (u ++ [] ++ codes ";\n")) =
        rendered_append (l.reads.pieces (codes " ")) (relation_piece e.relation ∷ (r.reads.pieces [] ++ symbol_piece (codes ";") (codes "\n") ∷ []))
        ∙ (λ i. l.reads.is (codes " ") i ++ (relation_bytes e.relation ++ codes " " ++ right_is i)) in
        ap (λ x. e.name ++ [] ++ (codes ".. " ++ x)) left_is
        ∙ line_bytes e.name (codes ".. ") t (codes " ") (relation_bytes e.relation ++ codes " ") u (codes ";\n")
        ∙ ap (λ x. e.name ++ codes ".. " ++ t ++ x ++ u ++ codes ";\n") (spaced e.relation)

    good : (behind : List ℕ) (more : List Piece) → Good behind true more → Good behind true (line_pieces e.name (l.reads.pieces (codes " ")) e.relation (r.reads.pieces []) ++ more)
    good behind more m =
        let right_good : Good behind false (r.reads.pieces [] ++ symbol_piece (codes ";") (codes "\n") ∷ more) = r.reads.good [] behind (symbol_piece (codes ";") (codes "\n") ∷ more) (inl refl) (record { word = refl; dot = refl }) (good_semicolon behind more m) in
        let relation_good : Good behind false (relation_piece e.relation ∷ (r.reads.pieces [] ++ symbol_piece (codes ";") (codes "\n") ∷ more)) =
        good_piece false (relation_piece e.relation) (r.reads.pieces [] ++ symbol_piece (codes ";") (codes "\n") ∷ more) (record { form = relation_form e.relation; sort = refl; gap = inr (inl refl) }) (λ h. absurd (cc)) tt right_good in
        let left_good = l.reads.good (codes " ") behind (relation_piece e.relation ∷ (r.reads.pieces [] ++ symbol_piece (codes ";") (codes "\n") ∷ more)) (inr (inl refl)) (record { word = refl; dot = refl }) relation_good in
        subst (λ ps. Good behind true ps) (sym (pieces_behind e.name (l.reads.pieces (codes " ")) e.relation (r.reads.pieces []) more))
        (good_word true e.name [] behind (symbol_piece (codes "..") (codes " ") ∷ (l.reads.pieces (codes " ") ++ relation_piece e.relation ∷ (r.reads.pieces [] ++ symbol_piece (codes ";") (codes "\n") ∷ more))) free.form (inl refl) refl
        (good_symbol (codes "..") (codes " ") behind (l.reads.pieces (codes " ") ++ relation_piece e.relation ∷ (r.reads.pieces [] ++ symbol_piece (codes ";") (codes "\n") ∷ more)) (inr (inl refl)) (inr (inl refl)) (dots_end (codes " " ++ rendered (l.reads.pieces (codes " ") ++ relation_piece e.relation ∷ (r.reads.pieces [] ++ symbol_piece (codes ";") (codes "\n") ∷ more)) ++ behind)) left_good))

    line : (text : List ℕ) (h d k z : Lexeme) (us vs : List Lexeme) → IsOf text (name_piece e.name []) h → IsOf text (symbol_piece (codes "..") (codes " ")) d → StandsFor names Sum (depth l.expression) l.expression text us → IsOf text (relation_piece e.relation) k → StandsFor names Sum (depth r.expression) r.expression text vs → IsOf text (symbol_piece (codes ";") (codes "\n")) z
        → ReadsLine (λ ss. AreDefinitions names text (e ∷ []) ss) (h ∷ d ∷ (us ++ k ∷ (vs ++ z ∷ [])))
    line text h d k z us vs oh od a ok b oz =
        let related : k.sort ≡ Related e.relation = ok.sort ∙ ap Related (relation_is e.relation) in
        let named : h.sort ≡ Name free.word = oh.sort ∙ free.sort in
        record {
          statement = definition h a.written e.relation b.written;
          stands = subst (λ xs. IsStatement (h ∷ d ∷ xs) (definition h a.written e.relation b.written)) (append_assoc us (k ∷ vs) (z ∷ []))
              (is_definition h d k z e.relation us vs a.written b.written (free.word, named) od.sort a.stands related b.stands oz.sort);
          are = (record { head = h; left = a.written; right = b.written; is = refl; spelled = ap lower oh.bytes; left_means = means names text e.left t us l a; right_means = means names text e.right u vs r b }, tt);
          level = λ ws.
              flat h (Name free.word) (d ∷ (us ++ k ∷ (vs ++ z ∷ [])) ++ ws) named refl
              ∙ flat d Dots ((us ++ k ∷ (vs ++ z ∷ [])) ++ ws) od.sort refl
              ∙ ap (too_deep_from 0) (append_assoc us (k ∷ (vs ++ z ∷ [])) ws)
              ∙ a.shallow 0 (k ∷ (vs ++ z ∷ []) ++ ws) (omega (arith, l.shallow))
              ∙ flat k (Related e.relation) ((vs ++ z ∷ []) ++ ws) related refl
              ∙ ap (too_deep_from 0) (append_assoc vs (z ∷ []) ws)
              ∙ b.shallow 0 (z ∷ ws) (omega (arith, r.shallow))
              ∙ flat z Semicolon ws oz.sort refl;
        }

    reads : (text : List ℕ) (ts : List Lexeme) → AreOf text (line_pieces e.name (l.reads.pieces (codes " ")) e.relation (r.reads.pieces [])) ts → ReadsLine (λ ss. AreDefinitions names text (e ∷ []) ss) ts
    reads text ts x =
        one text (name_piece e.name []) (symbol_piece (codes "..") (codes " ") ∷ (l.reads.pieces (codes " ") ++ relation_piece e.relation ∷ (r.reads.pieces [] ++ symbol_piece (codes ";") (codes "\n") ∷ []))) (ReadsLine (λ ss. AreDefinitions names text (e ∷ []) ss))
        (λ h x1 oh a1. one text (symbol_piece (codes "..") (codes " ")) (l.reads.pieces (codes " ") ++ relation_piece e.relation ∷ (r.reads.pieces [] ++ symbol_piece (codes ";") (codes "\n") ∷ [])) (λ xs. ReadsLine (λ ss. AreDefinitions names text (e ∷ []) ss) (h ∷ xs))
        (λ d x2 od a2. parts text (l.reads.pieces (codes " ")) (relation_piece e.relation ∷ (r.reads.pieces [] ++ symbol_piece (codes ";") (codes "\n") ∷ [])) (λ xs. ReadsLine (λ ss. AreDefinitions names text (e ∷ []) ss) (h ∷ d ∷ xs))
        (λ us x3 b a3. one text (relation_piece e.relation) (r.reads.pieces [] ++ symbol_piece (codes ";") (codes "\n") ∷ []) (λ xs. ReadsLine (λ ss. AreDefinitions names text (e ∷ []) ss) (h ∷ d ∷ (us ++ xs)))
        (λ k x4 ok a4. parts text (r.reads.pieces []) (symbol_piece (codes ";") (codes "\n") ∷ []) (λ xs. ReadsLine (λ ss. AreDefinitions names text (e ∷ []) ss) (h ∷ d ∷ (us ++ k ∷ xs)))
        (λ vs x5 c a5. one text (symbol_piece (codes ";") (codes "\n")) [] (λ xs. ReadsLine (λ ss. AreDefinitions names text (e ∷ []) ss) (h ∷ d ∷ (us ++ k ∷ (vs ++ xs))))
        (λ z x6 oz a6. none text (λ xs. ReadsLine (λ ss. AreDefinitions names text (e ∷ []) ss) (h ∷ d ∷ (us ++ k ∷ (vs ++ z ∷ xs)))) (line text h d k z us vs oh od (l.reads.stands (codes " ") text us b) ok (r.reads.stands [] text vs c) oz) x6 a6)
        x5 a5)
        x4 a4)
        x3 a3)
        x2 a2)
        x1 a1)
        ts x

-- ---- all of them
joined : (names : List (List ℕ)) (text : List ℕ) (e : Equation) (es : List Equation) (ss rest : List Statement) → AreDefinitions names text (e ∷ []) ss → AreDefinitions names text es rest → AreDefinitions names text (e ∷ es) (ss ++ rest)
joined names text e es [] rest h k = absurd h
joined names text e es (s ∷ []) rest h k = (h.0, k)
joined names text e es (s ∷ t ∷ ss) rest h k = absurd h.1

pub definition_lines : (names : List (List ℕ)) → NumeralsRead → All IsFree names → (es : List Equation) (bytes : List ℕ) → EquationLines names es bytes → All IsFree (equation_names_of es) → All (SoundEquation (length names)) es → Lines bytes (λ text ss. AreDefinitions names text es ss)
definition_lines names n free es bytes no_equations f s = no_line (λ text ss. AreDefinitions names text [] ss) (λ text. tt)
definition_lines names n free es bytes (an_equation e more left right t u rest lt rt lp rp lines) f s =
    let here = All-head (SoundEquation (length names)) e more s in
    both_lines (e.name ++ codes ".. " ++ t ++ relation_text e.relation ++ u ++ codes ";\n") rest (λ text ss. AreDefinitions names text (e ∷ []) ss) (λ text ss. AreDefinitions names text more ss) (λ text ss. AreDefinitions names text (e ∷ more) ss) (λ text ss others h k. joined names text e more ss others h k)
    (definition_line names e t u (All-head IsFree e.name (equation_names_of more) f) (side names e.left left t n free here.left lt lp) (side names e.right right u n free here.right rt rp))
    (definition_lines names n free more rest lines (All-tail IsFree e.name (equation_names_of more) f) (All-tail (SoundEquation (length names)) e more s))

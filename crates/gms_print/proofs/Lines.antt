-- Lines of printed models, as pieces, and the statements for which their lexemes stand.
use Rattle.std.proofs.Common.{◌≡◌, ℕ, Bool, true, false, cond, nat_lt, List, [], ◌∷◌, ◌++◌, map, All, codes, slice_index, Some, refl, sym, ap, subst, ◌∙◌, append_assoc, append-nil, inl, inr}
use Rattle.std.proofs.lemmas.List.Elements.{All-head, All-tail}
use Rattle.emp_lex.specs.declared.scan.Class.TheVariants.{Word}
use Rattle.emp_lex.specs.Bytes.{is_of}
use Rattle.emp_lex.specs.Forms.{IsName}
use Rattle.gms_grammar.specs.declared.lexeme.Sort.{Sort}
use Rattle.gms_grammar.specs.declared.lexeme.Sort.TheVariants.{Name as NameSort, Semicolon, Comma}
use Rattle.gms_grammar.specs.declared.lexeme.Lexeme.{Lexeme}
use Rattle.gms_grammar.specs.Lexemes.{spelling}
use Rattle.gms_grammar.specs.Nesting.{level_behind, too_deep_from}
use Rattle.gms_grammar.specs.Grammar.{Statement, bare, AreNames, next_behind_comma, IsStatement, IsFile, then}
use Rattle.gms_print.specs.Canonical.{more_names}
use Rattle.gms_print.proofs.Pieces.{Piece, rendered, IsOf, AreOf, IsGap, ends_line, Good, good_piece}
use Rattle.gms_print.proofs.Sound.{IsFree}
use Rattle.gms_print.proofs.ExpressionPieces.{name_piece, symbol_piece, good_symbol, ends_alone, rendered_append}

-- ---- lexemes of pieces, one after another
pub one : (text : List ℕ) (p : Piece) (ps : List Piece) (P : List Lexeme → Type 0) → ((t : Lexeme) (us : List Lexeme) → IsOf text p t → AreOf text ps us → P (t ∷ us)) → (ts : List Lexeme) → AreOf text (p ∷ ps) ts → P ts
one text p ps P f [] a = absurd a
one text p ps P f (t ∷ us) a = f t us a.0 a.1

pub parts : (text : List ℕ) (ps qs : List Piece) (P : List Lexeme → Type 0) → ((us vs : List Lexeme) → AreOf text ps us → AreOf text qs vs → P (us ++ vs)) → (ts : List Lexeme) → AreOf text (ps ++ qs) ts → P ts
parts text [] qs P f ts a = f [] ts tt a
parts text (p ∷ ps) qs P f [] a = absurd a
parts text (p ∷ ps) qs P f (t ∷ ts) a = parts text ps qs (λ xs. P (t ∷ xs)) (λ us vs b c. f (t ∷ us) vs (a.0, b) c) ts a.1

pub none : (text : List ℕ) (P : List Lexeme → Type 0) → P [] → (ts : List Lexeme) → AreOf text [] ts → P ts
none text P p [] a = p
none text P p (t ∷ ts) a = absurd a

-- a lexeme that is no parenthesis changes no level
pub flat : (t : Lexeme) (s : Sort) (us : List Lexeme) → t.sort ≡ s → level_behind 0 s ≡ 0 → too_deep_from 0 (t ∷ us) ≡ too_deep_from 0 us
flat t s us e h = ap (λ l. cond (nat_lt 64 l) (Some t.place) (too_deep_from l us)) (ap (level_behind 0) e ∙ h)

-- ---- single pieces
-- a name, which may begin a line
pub good_word : (b : Bool) (bs gap behind : List ℕ) (more : List Piece) → IsName bs → IsGap gap → is_of Word (slice_index (gap ++ rendered more ++ behind) 0) ≡ false → Good behind (ends_line gap) more → Good behind b (name_piece bs gap ∷ more)
good_word b bs gap behind more f g e m = good_piece b (name_piece bs gap) more (record { form = f; sort = refl; gap = g }) (λ h. refl) e m

-- the end of a line
pub good_semicolon : (behind : List ℕ) (more : List Piece) → Good behind true more → Good behind false (symbol_piece (codes ";") (codes "\n") ∷ more)
good_semicolon behind more m = good_symbol (codes ";") (codes "\n") behind more (inr (inr (59, refl, refl))) (inr (inr refl)) (ends_alone (codes ";") (codes "\n" ++ rendered more ++ behind) refl refl refl) m

-- ---- what lines stand for
-- lexemes that stand for one statement
pub record ReadsLine (F : List Statement → Type 0) (ts : List Lexeme) : Type 0 where
  pub statement : Statement
  pub stands : IsStatement ts statement
  pub are : F (statement ∷ [])
  pub level : (us : List Lexeme) → too_deep_from 0 (ts ++ us) ≡ too_deep_from 0 us

pub record ReadsLines (F : List Statement → Type 0) (ts : List Lexeme) : Type 0 where
  pub statements : List Statement
  pub are : F statements
  pub file : (us : List Lexeme) (rest : List Statement) → IsFile us rest → IsFile (ts ++ us) (statements ++ rest)
  pub level : (us : List Lexeme) → too_deep_from 0 (ts ++ us) ≡ too_deep_from 0 us

-- the bytes are those of pieces that begin a line and end one, and stand for statements of which F holds
pub record Lines (bytes : List ℕ) (F : List ℕ → List Statement → Type 0) : Type 0 where
  pub pieces : List Piece
  pub is : rendered pieces ≡ bytes
  pub good : (behind : List ℕ) (more : List Piece) → Good behind true more → Good behind true (pieces ++ more)
  pub reads : (text : List ℕ) (ts : List Lexeme) → AreOf text pieces ts → ReadsLines (F text) ts

pub no_line : (F : List ℕ → List Statement → Type 0) → ((text : List ℕ) → F text []) → Lines [] F
no_line F h = record {
  pieces = [];
  is = refl;
  good = λ behind more m. m;
  reads = λ text ts a. none text (ReadsLines (F text)) (record { statements = []; are = h text; file = λ us rest f. f; level = λ us. refl }) ts a;
}

pub one_line : (bytes : List ℕ) (F : List ℕ → List Statement → Type 0) (pieces : List Piece) → rendered pieces ≡ bytes → ((behind : List ℕ) (more : List Piece) → Good behind true more → Good behind true (pieces ++ more)) → ((text : List ℕ) (ts : List Lexeme) → AreOf text pieces ts → ReadsLine (F text) ts) → Lines bytes F
one_line bytes F pieces e g r = record {
  pieces = pieces;
  is = e;
  good = g;
  reads = λ text ts a. (let l = r text ts a in record { statements = l.statement ∷ []; are = l.are; file = λ us rest f. then ts us l.statement rest l.stands f; level = l.level });
}

pub both_lines : (a b : List ℕ) (F G H : List ℕ → List Statement → Type 0) → ((text : List ℕ) (ss rest : List Statement) → F text ss → G text rest → H text (ss ++ rest)) → Lines a F → Lines b G → Lines (a ++ b) H
both_lines a b F G H join l k = record {
  pieces = l.pieces ++ k.pieces;
  is = rendered_append l.pieces k.pieces ∙ (λ i. l.is i ++ k.is i);
  good = λ behind more m. subst (λ ps. Good behind true ps) (sym (append_assoc l.pieces k.pieces more)) (l.good behind (k.pieces ++ more) (k.good behind more m));
  reads = λ text ts h. parts text l.pieces k.pieces (ReadsLines (H text)) (λ us vs x y. pair text us vs (l.reads text us x) (k.reads text vs y)) ts h;
}
  where
    pair : (text : List ℕ) (us vs : List Lexeme) → ReadsLines (F text) us → ReadsLines (G text) vs → ReadsLines (H text) (us ++ vs)
    pair text us vs x y = record {
      statements = x.statements ++ y.statements;
      are = join text x.statements y.statements x.are y.are;
      file = λ ws rest f.
          subst (λ ts. IsFile ts (x.statements ++ y.statements ++ rest)) (sym (append_assoc us vs ws))
          (subst (λ ss. IsFile (us ++ (vs ++ ws)) ss) (sym (append_assoc x.statements y.statements rest)) (x.file (vs ++ ws) (y.statements ++ rest) (y.file ws rest f)));
      level = λ ws. ap (too_deep_from 0) (append_assoc us vs ws) ∙ x.level (vs ++ ws) ∙ y.level ws;
    }

-- ---- names behind the first
abbrev pub more_pieces : List (List ℕ) → List Piece
more_pieces [] = symbol_piece (codes ";") (codes "\n") ∷ []
more_pieces (n ∷ ns) = symbol_piece (codes ",") (codes " ") ∷ name_piece n [] ∷ more_pieces ns

pub name_and : (n xs ys : List ℕ) → xs ≡ ys → n ++ [] ++ xs ≡ n ++ ys
name_and n xs ys e = λ i. append-nil n i ++ e i

pub more_rendered : (ns : List (List ℕ)) → rendered (more_pieces ns) ≡ more_names ns
more_rendered [] = refl
more_rendered (n ∷ ns) = ap (λ x. codes ", " ++ x) (name_and n (rendered (more_pieces ns)) (more_names ns) (more_rendered ns))

pub more_end : (ns : List (List ℕ)) (behind : List ℕ) (more : List Piece) → is_of Word (slice_index (rendered (more_pieces ns ++ more) ++ behind) 0) ≡ false
more_end [] behind more = refl
more_end (n ∷ ns) behind more = refl

pub more_good : (ns : List (List ℕ)) → All IsFree ns → (behind : List ℕ) (more : List Piece) → Good behind true more → Good behind false (more_pieces ns ++ more)
more_good [] h behind more m = good_semicolon behind more m
more_good (n ∷ ns) h behind more m =
    let free = All-head IsFree n ns h in
    good_symbol (codes ",") (codes " ") behind (name_piece n [] ∷ more_pieces ns ++ more) (inr (inr (44, refl, refl))) (inr (inl refl)) (ends_alone (codes ",") (codes " " ++ rendered (name_piece n [] ∷ more_pieces ns ++ more) ++ behind) refl refl refl)
    (good_word false n [] behind (more_pieces ns ++ more) free.form (inl refl) (more_end ns behind more) (more_good ns (All-tail IsFree n ns h) behind more m))

-- the lexemes of further names, behind names that were read
pub record MoreRead (text : List ℕ) (ns : List (List ℕ)) (front seen ts : List Lexeme) : Type 0 where
  pub back : List Lexeme
  pub names : List Lexeme
  pub z : Lexeme
  pub is : ts ≡ back ++ z ∷ []
  pub ends : z.sort ≡ Semicolon
  pub are : AreNames (front ++ back) (seen ++ names)
  pub spelled : map (spelling text) names ≡ ns
  pub level : (us : List Lexeme) → too_deep_from 0 (ts ++ us) ≡ too_deep_from 0 us

pub more_read : (text : List ℕ) (ns : List (List ℕ)) → All IsFree ns → (front seen : List Lexeme) → AreNames front seen → (ts : List Lexeme) → AreOf text (more_pieces ns) ts → MoreRead text ns front seen ts
more_read text [] free front seen r ts h =
    one text (symbol_piece (codes ";") (codes "\n")) [] (MoreRead text [] front seen)
    (λ z us o a. none text (λ xs. MoreRead text [] front seen (z ∷ xs))
    (record {
      back = [];
      names = [];
      z = z;
      is = refl;
      ends = o.sort;
      are = subst (λ ts. AreNames ts (seen ++ [])) (sym (append-nil front)) (subst (λ ts. AreNames front ts) (sym (append-nil seen)) r);
      spelled = refl;
      level = λ vs. flat z Semicolon vs o.sort refl;
    }) us a)
    ts h
more_read text (n ∷ ns) free front seen r ts h =
    one text (symbol_piece (codes ",") (codes " ")) (name_piece n [] ∷ more_pieces ns) (MoreRead text (n ∷ ns) front seen)
    (λ c us o a. one text (name_piece n []) (more_pieces ns) (λ xs. MoreRead text (n ∷ ns) front seen (c ∷ xs)) (λ t vs q b. joined c t vs o q (All-head IsFree n ns free) (more_read text ns (All-tail IsFree n ns free) (front ++ c ∷ t ∷ []) (seen ++ t ∷ []) (next_behind_comma front (t ∷ []) seen c t r o.sort (bare t ((All-head IsFree n ns free).word, q.sort ∙ (All-head IsFree n ns free).sort))) vs b)) us a)
    ts h
  where
    joined : (c t : Lexeme) (vs : List Lexeme) → IsOf text (symbol_piece (codes ",") (codes " ")) c → IsOf text (name_piece n []) t → IsFree n → MoreRead text ns (front ++ c ∷ t ∷ []) (seen ++ t ∷ []) vs → MoreRead text (n ∷ ns) front seen (c ∷ t ∷ vs)
    joined c t vs o q f m = record {
      back = c ∷ t ∷ m.back;
      names = t ∷ m.names;
      z = m.z;
      is = ap (λ xs. c ∷ t ∷ xs) m.is;
      ends = m.ends;
      are = subst (λ xs. AreNames xs (seen ++ t ∷ m.names)) (append_assoc front (c ∷ t ∷ []) m.back) (subst (λ xs. AreNames (front ++ c ∷ t ∷ [] ++ m.back) xs) (append_assoc seen (t ∷ []) m.names) m.are);
      spelled = λ i. q.bytes i ∷ m.spelled i;
      level = λ us. flat c Comma (t ∷ vs ++ us) o.sort refl ∙ flat t (NameSort f.word) (vs ++ us) (q.sort ∙ f.sort) refl ∙ m.level us;
    }

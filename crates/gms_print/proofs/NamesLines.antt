-- The lines that declare the names of a printed model.
use Rattle.std.proofs.Common.{◌≡◌, ℕ, Bool, true, false, ◌&&◌, nat_le, IsTrue, List, [], ◌∷◌, ◌++◌, map, length, All, codes, slice_index, refl, sym, ap, subst, ◌∙◌, arith, inl, inr}
use Rattle.std.proofs.lemmas.Bool.{and_parts}
use Rattle.std.proofs.lemmas.Bool.Decides.{nat_tests}
use Rattle.std.proofs.lemmas.List.Elements.{All-head, All-tail, All-nil, All-cons}
use Rattle.emp_lex.specs.declared.scan.Class.TheVariants.{Word}
use Rattle.emp_lex.specs.Bytes.{is_letter, is_of}
use Rattle.emp_lex.specs.Forms.{IsName}
use Rattle.gms_grammar.specs.declared.lexeme.Domain.TheVariants.{Free}
use Rattle.gms_grammar.specs.declared.lexeme.Sort.{Sort}
use Rattle.gms_grammar.specs.declared.lexeme.Sort.TheVariants.{Name, Variables, Equations, Semicolon}
use Rattle.gms_grammar.specs.declared.lexeme.Lexeme.{Lexeme}
use Rattle.gms_grammar.specs.Lexemes.{spelling, word_sort}
use Rattle.gms_grammar.specs.Nesting.{level_behind, too_deep_from}
use Rattle.gms_grammar.specs.Grammar.{variables, equations, IsStatement, bare, AreNames, first, is_variables, is_equations}
use Rattle.gms_print.specs.Canonical.{more_names, names_line}
use Rattle.gms_print.proofs.Pieces.{Piece, rendered, IsOf, AreOf, Good}
use Rattle.gms_print.proofs.Sound.{IsFree}
use Rattle.gms_print.proofs.Effects.{DeclaresVariables, no_variables, some_variables, DeclaresEquations, no_equations, some_equations}
use Rattle.gms_print.proofs.ExpressionPieces.{name_piece}
use Rattle.gms_print.proofs.Lines.{one, flat, good_word, ReadsLine, Lines, no_line, one_line, more_pieces, name_and, more_rendered, more_end, more_good, MoreRead, more_read}

-- ---- words that are names
abbrev pub all_words : List ℕ → Bool
all_words [] = true
all_words (b ∷ bs) = is_of Word b && all_words bs

each_word : (bs : List ℕ) → all_words bs ≡ true → All (λ b. IsTrue (is_of Word b)) bs
each_word [] h = All-nil (λ b. IsTrue (is_of Word b))
each_word (b ∷ bs) h = let p = and_parts (is_of Word b) (all_words bs) h in All-cons (λ b. IsTrue (is_of Word b)) b bs p.0 (each_word bs p.1)

pub is_name : (bs : List ℕ) → is_letter (slice_index bs 0) ≡ true → all_words bs ≡ true → nat_le (length bs) 63 ≡ true → IsName bs
is_name bs h k l = record { letter = h; bytes = each_word bs k; short = grind (arith, nat_tests) }

-- ---- a word and names
pub record NamesRead (text : List ℕ) (s : Sort) (names : List (List ℕ)) (ts : List Lexeme) : Type 0 where
  pub v : Lexeme
  pub z : Lexeme
  pub entries : List Lexeme
  pub list : List Lexeme
  pub is : ts ≡ v ∷ entries ++ z ∷ []
  pub head : v.sort ≡ s
  pub are : AreNames entries list
  pub ends : z.sort ≡ Semicolon
  pub spelled : map (spelling text) list ≡ names
  pub level : (us : List Lexeme) → too_deep_from 0 (ts ++ us) ≡ too_deep_from 0 us

names_read : (text word : List ℕ) (s : Sort) (n : List ℕ) (ns : List (List ℕ)) → word_sort word ≡ s → level_behind 0 s ≡ 0 → All IsFree (n ∷ ns) → (ts : List Lexeme) → AreOf text (name_piece word (codes " ") ∷ name_piece n [] ∷ more_pieces ns) ts → NamesRead text s (n ∷ ns) ts
names_read text word s n ns e l free ts h =
    one text (name_piece word (codes " ")) (name_piece n [] ∷ more_pieces ns) (NamesRead text s (n ∷ ns))
    (λ v us o a. one text (name_piece n []) (more_pieces ns) (λ xs. NamesRead text s (n ∷ ns) (v ∷ xs)) (λ t vs q b. joined v t vs o q (All-head IsFree n ns free) (more_read text ns (All-tail IsFree n ns free) (t ∷ []) (t ∷ []) (first (t ∷ []) t (bare t ((All-head IsFree n ns free).word, q.sort ∙ (All-head IsFree n ns free).sort))) vs b)) us a)
    ts h
  where
    joined : (v t : Lexeme) (vs : List Lexeme) → IsOf text (name_piece word (codes " ")) v → IsOf text (name_piece n []) t → IsFree n → MoreRead text ns (t ∷ []) (t ∷ []) vs → NamesRead text s (n ∷ ns) (v ∷ t ∷ vs)
    joined v t vs o q f m = record {
      v = v;
      z = m.z;
      entries = t ∷ m.back;
      list = t ∷ m.names;
      is = ap (λ xs. v ∷ t ∷ xs) m.is;
      head = o.sort ∙ e;
      are = m.are;
      ends = m.ends;
      spelled = λ i. q.bytes i ∷ m.spelled i;
      level = λ us. flat v s (t ∷ vs ++ us) (o.sort ∙ e) l ∙ flat t (Name f.word) (vs ++ us) (q.sort ∙ f.sort) refl ∙ m.level us;
    }

names_good : (word n : List ℕ) (ns : List (List ℕ)) → IsName word → All IsFree (n ∷ ns) → (behind : List ℕ) (more : List Piece) → Good behind true more → Good behind true (name_piece word (codes " ") ∷ name_piece n [] ∷ more_pieces ns ++ more)
names_good word n ns w free behind more m =
    good_word true word (codes " ") behind (name_piece n [] ∷ more_pieces ns ++ more) w (inr (inl refl)) refl
    (good_word false n [] behind (more_pieces ns ++ more) (All-head IsFree n ns free).form (inl refl) (more_end ns behind more) (more_good ns (All-tail IsFree n ns free) behind more m))

-- ---- the two lines
pub variables_line : (names : List (List ℕ)) → All IsFree names → Lines (names_line (codes "Variables ") names) (λ text ss. DeclaresVariables text names ss)
variables_line [] free = no_line (λ text ss. DeclaresVariables text [] ss) (λ text. no_variables)
variables_line (n ∷ ns) free =
    one_line (names_line (codes "Variables ") (n ∷ ns)) (λ text ss. DeclaresVariables text (n ∷ ns) ss) (name_piece (codes "Variables") (codes " ") ∷ name_piece n [] ∷ more_pieces ns)
    (ap (λ x. codes "Variables " ++ x) (name_and n (rendered (more_pieces ns)) (more_names ns) (more_rendered ns)))
    (names_good (codes "Variables") n ns (is_name (codes "Variables") refl refl refl) free)
    (λ text ts a. line text ts (names_read text (codes "Variables") Variables n ns refl refl free ts a))
  where
    line : (text : List ℕ) (ts : List Lexeme) → NamesRead text Variables (n ∷ ns) ts → ReadsLine (λ ss. DeclaresVariables text (n ∷ ns) ss) ts
    line text ts r = record {
      statement = variables Free r.v r.list;
      stands = subst (λ xs. IsStatement xs (variables Free r.v r.list)) (sym r.is) (is_variables r.v r.z r.entries r.list r.head r.are r.ends);
      are = some_variables (n ∷ ns) r.v r.list r.spelled;
      level = r.level;
    }

pub equations_line : (names : List (List ℕ)) → All IsFree names → Lines (names_line (codes "Equations ") names) (λ text ss. DeclaresEquations text names ss)
equations_line [] free = no_line (λ text ss. DeclaresEquations text [] ss) (λ text. no_equations)
equations_line (n ∷ ns) free =
    one_line (names_line (codes "Equations ") (n ∷ ns)) (λ text ss. DeclaresEquations text (n ∷ ns) ss) (name_piece (codes "Equations") (codes " ") ∷ name_piece n [] ∷ more_pieces ns)
    (ap (λ x. codes "Equations " ++ x) (name_and n (rendered (more_pieces ns)) (more_names ns) (more_rendered ns)))
    (names_good (codes "Equations") n ns (is_name (codes "Equations") refl refl refl) free)
    (λ text ts a. line text ts (names_read text (codes "Equations") Equations n ns refl refl free ts a))
  where
    line : (text : List ℕ) (ts : List Lexeme) → NamesRead text Equations (n ∷ ns) ts → ReadsLine (λ ss. DeclaresEquations text (n ∷ ns) ss) ts
    line text ts r = record {
      statement = equations r.list;
      stands = subst (λ xs. IsStatement xs (equations r.list)) (sym r.is) (is_equations r.v r.z r.entries r.list r.head r.are r.ends);
      are = some_equations (n ∷ ns) r.list r.spelled;
      level = r.level;
    }

-- The last two lines of a printed model, and files that end with them.
use Rattle.std.proofs.Common.{◌≡◌, ℕ, true, false, List, [], ◌∷◌, ◌++◌, length, All, codes, slice_index, slice_index_or, Option, Some, None, refl, ap, subst, ◌∙◌, append_assoc, append-nil, inl, inr}
use Rattle.emp_ast.specs.declared.tree.VarId.{VarId}
use Rattle.emp_ast.specs.declared.model.Sense.{Sense}
use Rattle.emp_ast.specs.declared.model.Sense.TheVariants.{Min, Max}
use Rattle.emp_lex.specs.declared.scan.Class.TheVariants.{Word}
use Rattle.emp_lex.specs.Bytes.{is_of}
use Rattle.emp_lex.specs.Forms.{IsName}
use Rattle.gms_grammar.specs.declared.lexeme.Word.TheVariants.{All as AllWord, Using, Emp, Minimizing, Maximizing}
use Rattle.gms_grammar.specs.declared.lexeme.Scale.TheVariants.{Over}
use Rattle.gms_grammar.specs.declared.lexeme.Sort.TheVariants.{Name, Model as ModelSort, Solve as SolveSort, Scale, Semicolon}
use Rattle.gms_grammar.specs.declared.lexeme.Lexeme.{Lexeme}
use Rattle.gms_grammar.specs.Lexemes.{spelling}
use Rattle.gms_grammar.specs.Nesting.{too_deep_from}
use Rattle.gms_grammar.specs.Grammar.{Statement, model, solve, bare, is_model, IsGoal, no_goal, least, greatest, is_solve, none as no_semicolons, IsFile, last}
use Rattle.gms_print.specs.Canonical.{goal_text}
use Rattle.gms_print.proofs.Pieces.{Piece, rendered, IsOf, AreOf, IsGap, ends_line, Good, good_end}
use Rattle.gms_print.proofs.Sound.{IsFree, SoundGoal}
use Rattle.gms_print.proofs.Effects.{Aims}
use Rattle.gms_print.proofs.ExpressionPieces.{name_piece, symbol_piece, good_symbol, ends_alone, rendered_append}
use Rattle.gms_print.proofs.Lines.{one, parts, none, flat, good_word, good_semicolon, ReadsLine, ReadsLines, Lines, one_line}
use Rattle.gms_print.proofs.NamesLines.{is_name}

-- ---- files
-- lexemes that stand for statements to the end of a file
pub record ReadsFile (G : List Statement → Type 0) (ts : List Lexeme) : Type 0 where
  pub statements : List Statement
  pub are : G statements
  pub file : IsFile ts statements
  pub level : too_deep_from 0 ts ≡ None

-- the bytes are those of pieces to the end of a file
pub record Ends (bytes : List ℕ) (G : List ℕ → List Statement → Type 0) : Type 0 where
  pub pieces : List Piece
  pub is : rendered pieces ≡ bytes
  pub good : Good [] true pieces
  pub reads : (text : List ℕ) (ts : List Lexeme) → AreOf text pieces ts → ReadsFile (G text) ts

-- statements of the one kind before those of the other
pub record Before (F G : List Statement → Type 0) (ss : List Statement) : Type 0 where
  pub front : List Statement
  pub back : List Statement
  pub is : ss ≡ front ++ back
  pub are_front : F front
  pub are_back : G back

pub before : (a b : List ℕ) (F G : List ℕ → List Statement → Type 0) → Lines a F → Ends b G → Ends (a ++ b) (λ text ss. Before (F text) (G text) ss)
before a b F G l e = record {
  pieces = l.pieces ++ e.pieces;
  is = rendered_append l.pieces e.pieces ∙ (λ i. l.is i ++ e.is i);
  good = l.good [] e.pieces e.good;
  reads = λ text ts h. parts text l.pieces e.pieces (ReadsFile (λ ss. Before (F text) (G text) ss)) (λ us vs x y. pair text us vs (l.reads text us x) (e.reads text vs y)) ts h;
}
  where
    pair : (text : List ℕ) (us vs : List Lexeme) → ReadsLines (F text) us → ReadsFile (G text) vs → ReadsFile (λ ss. Before (F text) (G text) ss) (us ++ vs)
    pair text us vs x y = record {
      statements = x.statements ++ y.statements;
      are = record { front = x.statements; back = y.statements; is = refl; are_front = x.are; are_back = y.are };
      file = x.file vs y.statements y.file;
      level = x.level vs ∙ y.level;
    }

-- ---- the model's line
pub record NamesModel (text name : List ℕ) (ss : List Statement) : Type 0 where
  pub lexeme : Lexeme
  pub is : ss ≡ model lexeme ∷ []
  pub spelled : spelling text lexeme ≡ name

good_slash : (gap behind : List ℕ) (more : List Piece) → IsGap gap → Good behind (ends_line gap) more → Good behind false (symbol_piece (codes "/") gap ∷ more)
good_slash gap behind more g m = good_symbol (codes "/") gap behind more (inr (inr (47, refl, refl))) g (ends_alone (codes "/") (gap ++ rendered more ++ behind) refl refl refl) m

abbrev model_pieces : List ℕ → List Piece → List Piece
model_pieces name more = name_piece (codes "Model") (codes " ") ∷ name_piece name (codes " ") ∷ symbol_piece (codes "/") (codes " ") ∷ name_piece (codes "all") (codes " ") ∷ symbol_piece (codes "/") [] ∷ symbol_piece (codes ";") (codes "\n") ∷ more

pub model_line : (name : List ℕ) → IsFree name → Lines (codes "Model " ++ name ++ codes " / all /;\n") (λ text ss. NamesModel text name ss)
model_line name free =
    one_line (codes "Model " ++ name ++ codes " / all /;\n") (λ text ss. NamesModel text name ss) (model_pieces name []) (ap (λ x. codes "Model " ++ x) (append_assoc name (codes " ") (codes "/ all /;\n"))) good reads
  where
    good : (behind : List ℕ) (more : List Piece) → Good behind true more → Good behind true (model_pieces name more)
    good behind more m =
        let end : Good behind false (symbol_piece (codes "/") [] ∷ symbol_piece (codes ";") (codes "\n") ∷ more) = good_slash [] behind (symbol_piece (codes ";") (codes "\n") ∷ more) (inl refl) (good_semicolon behind more m) in
        let word : Good behind false (name_piece (codes "all") (codes " ") ∷ symbol_piece (codes "/") [] ∷ symbol_piece (codes ";") (codes "\n") ∷ more) = good_word false (codes "all") (codes " ") behind (symbol_piece (codes "/") [] ∷ symbol_piece (codes ";") (codes "\n") ∷ more) (is_name (codes "all") refl refl refl) (inr (inl refl)) refl end in
        let slash = good_slash (codes " ") behind (name_piece (codes "all") (codes " ") ∷ symbol_piece (codes "/") [] ∷ symbol_piece (codes ";") (codes "\n") ∷ more) (inr (inl refl)) word in
        let rest = symbol_piece (codes "/") (codes " ") ∷ name_piece (codes "all") (codes " ") ∷ symbol_piece (codes "/") [] ∷ symbol_piece (codes ";") (codes "\n") ∷ more in
        good_word true (codes "Model") (codes " ") behind (name_piece name (codes " ") ∷ rest) (is_name (codes "Model") refl refl refl) (inr (inl refl)) refl
        (good_word false name (codes " ") behind rest free.form (inr (inl refl)) refl slash)

    line : (text : List ℕ) (m t a b c z : Lexeme) → IsOf text (name_piece (codes "Model") (codes " ")) m → IsOf text (name_piece name (codes " ")) t → IsOf text (symbol_piece (codes "/") (codes " ")) a → IsOf text (name_piece (codes "all") (codes " ")) b → IsOf text (symbol_piece (codes "/") []) c → IsOf text (symbol_piece (codes ";") (codes "\n")) z
        → ReadsLine (λ ss. NamesModel text name ss) (m ∷ t ∷ a ∷ b ∷ c ∷ z ∷ [])
    line text m t a b c z om ot oa ob oc oz =
        let named : t.sort ≡ Name free.word = ot.sort ∙ free.sort in
        record {
          statement = model t;
          stands = is_model m a b c z (t ∷ []) t om.sort (bare t (free.word, named)) oa.sort ob.sort oc.sort oz.sort;
          are = record { lexeme = t; is = refl; spelled = ot.bytes };
          level = λ us.
              flat m ModelSort (t ∷ a ∷ b ∷ c ∷ z ∷ us) om.sort refl
              ∙ flat t (Name free.word) (a ∷ b ∷ c ∷ z ∷ us) named refl
              ∙ flat a (Scale Over) (b ∷ c ∷ z ∷ us) oa.sort refl
              ∙ flat b (Name AllWord) (c ∷ z ∷ us) ob.sort refl
              ∙ flat c (Scale Over) (z ∷ us) oc.sort refl
              ∙ flat z Semicolon us oz.sort refl;
        }

    reads : (text : List ℕ) (ts : List Lexeme) → AreOf text (model_pieces name []) ts → ReadsLine (λ ss. NamesModel text name ss) ts
    reads text [] x = absurd x
    reads text (m ∷ []) x = absurd x.1
    reads text (m ∷ t ∷ []) x = absurd x.1.1
    reads text (m ∷ t ∷ a ∷ []) x = absurd x.1.1.1
    reads text (m ∷ t ∷ a ∷ b ∷ []) x = absurd x.1.1.1.1
    reads text (m ∷ t ∷ a ∷ b ∷ c ∷ []) x = absurd x.1.1.1.1.1
    reads text (m ∷ t ∷ a ∷ b ∷ c ∷ z ∷ []) x = line text m t a b c z x.0 x.1.0 x.1.1.0 x.1.1.1.0 x.1.1.1.1.0 x.1.1.1.1.1.0
    reads text (m ∷ t ∷ a ∷ b ∷ c ∷ z ∷ y ∷ ts) x = absurd x.1.1.1.1.1.1

-- ---- the objective
-- what the lexemes of a printed objective stand for
pub record ReadsGoal (text : List ℕ) (names : List (List ℕ)) (g : Option (Sense × VarId)) (ts : List Lexeme) : Type 0 where
  pub goal : Option (Sense × Lexeme)
  pub stands : IsGoal ts goal
  pub aims : Aims text names g goal
  pub level : (us : List Lexeme) → too_deep_from 0 (ts ++ us) ≡ too_deep_from 0 us

-- its pieces, and the gap before them
pub record GoalPieces (names : List (List ℕ)) (g : Option (Sense × VarId)) : Type 0 where
  pub gap : List ℕ
  pub pieces : List Piece
  pub is_gap : IsGap gap
  pub is : gap ++ rendered pieces ≡ goal_text names g
  pub begins : is_of Word (slice_index (gap ++ rendered (pieces ++ symbol_piece (codes ";") (codes "\n") ∷ []) ++ []) 0) ≡ false
  pub good : Good [] (ends_line gap) (pieces ++ symbol_piece (codes ";") (codes "\n") ∷ [])
  pub reads : (text : List ℕ) (ts : List Lexeme) → AreOf text pieces ts → ReadsGoal text names g ts

good_end_of_file : Good [] false (symbol_piece (codes ";") (codes "\n") ∷ [])
good_end_of_file = good_semicolon [] [] (good_end true)

good_goal : (word name : List ℕ) → IsName word → IsName name → Good [] false (name_piece word (codes " ") ∷ name_piece name [] ∷ symbol_piece (codes ";") (codes "\n") ∷ [])
good_goal word name w n =
    good_word false word (codes " ") [] (name_piece name [] ∷ symbol_piece (codes ";") (codes "\n") ∷ []) w (inr (inl refl)) refl
    (good_word false name [] [] (symbol_piece (codes ";") (codes "\n") ∷ []) n (inl refl) refl good_end_of_file)

goal_pieces : (names : List (List ℕ)) (g : Option (Sense × VarId)) → All IsFree names → SoundGoal (length names) g → GoalPieces names g
goal_pieces names None free h = record {
  gap = [];
  pieces = [];
  is_gap = inl refl;
  is = refl;
  begins = refl;
  good = good_end_of_file;
  reads = λ text ts a. none text (ReadsGoal text names None) (record { goal = None; stands = no_goal; aims = tt; level = λ us. refl }) ts a;
}
goal_pieces names (Some (Min, v)) free h = record {
  gap = codes " ";
  pieces = name_piece (codes "minimizing") (codes " ") ∷ name_piece (slice_index_or names v.at []) [] ∷ [];
  is_gap = inr (inl refl);
  is = ap (λ x. codes " minimizing " ++ x) (append-nil (slice_index_or names v.at [] ++ []) ∙ append-nil (slice_index_or names v.at []));
  begins = refl;
  good = good_goal (codes "minimizing") (slice_index_or names v.at []) (is_name (codes "minimizing") refl refl refl) (free v.at [] h).form;
  reads = reads;
}
  where
    reads : (text : List ℕ) (ts : List Lexeme) → AreOf text (name_piece (codes "minimizing") (codes " ") ∷ name_piece (slice_index_or names v.at []) [] ∷ []) ts → ReadsGoal text names (Some (Min, v)) ts
    reads text [] x = absurd x
    reads text (w ∷ []) x = absurd x.1
    reads text (w ∷ t ∷ []) x =
        let f = free v.at [] h in
        let named : t.sort ≡ Name f.word = x.1.0.sort ∙ f.sort in
        record {
          goal = Some (Min, t);
          stands = least w t x.0.sort (f.word, named);
          aims = (refl, x.1.0.bytes);
          level = λ us. flat w (Name Minimizing) (t ∷ us) x.0.sort refl ∙ flat t (Name f.word) us named refl;
        }
    reads text (w ∷ t ∷ y ∷ ts) x = absurd x.1.1
goal_pieces names (Some (Max, v)) free h = record {
  gap = codes " ";
  pieces = name_piece (codes "maximizing") (codes " ") ∷ name_piece (slice_index_or names v.at []) [] ∷ [];
  is_gap = inr (inl refl);
  is = ap (λ x. codes " maximizing " ++ x) (append-nil (slice_index_or names v.at [] ++ []) ∙ append-nil (slice_index_or names v.at []));
  begins = refl;
  good = good_goal (codes "maximizing") (slice_index_or names v.at []) (is_name (codes "maximizing") refl refl refl) (free v.at [] h).form;
  reads = reads;
}
  where
    reads : (text : List ℕ) (ts : List Lexeme) → AreOf text (name_piece (codes "maximizing") (codes " ") ∷ name_piece (slice_index_or names v.at []) [] ∷ []) ts → ReadsGoal text names (Some (Max, v)) ts
    reads text [] x = absurd x
    reads text (w ∷ []) x = absurd x.1
    reads text (w ∷ t ∷ []) x =
        let f = free v.at [] h in
        let named : t.sort ≡ Name f.word = x.1.0.sort ∙ f.sort in
        record {
          goal = Some (Max, t);
          stands = greatest w t x.0.sort (f.word, named);
          aims = (refl, x.1.0.bytes);
          level = λ us. flat w (Name Maximizing) (t ∷ us) x.0.sort refl ∙ flat t (Name f.word) us named refl;
        }
    reads text (w ∷ t ∷ y ∷ ts) x = absurd x.1.1

-- ---- the solve statement's line
pub record Solves (text name : List ℕ) (names : List (List ℕ)) (g : Option (Sense × VarId)) (ss : List Statement) : Type 0 where
  pub lexeme : Lexeme
  pub goal : Option (Sense × Lexeme)
  pub is : ss ≡ solve lexeme goal ∷ []
  pub spelled : spelling text lexeme ≡ name
  pub aims : Aims text names g goal

solve_bytes : (s name gap using_ emp space goal end : List ℕ) → s ++ (name ++ gap ++ (using_ ++ (emp ++ space ++ (goal ++ end)))) ≡ s ++ name ++ (gap ++ using_ ++ emp) ++ (space ++ goal) ++ end
solve_bytes s name gap using_ emp space goal end = simp append_assoc refl

abbrev solve_pieces : List ℕ → List ℕ → List Piece → List Piece
solve_pieces name gap more = name_piece (codes "Solve") (codes " ") ∷ name_piece name (codes " ") ∷ name_piece (codes "using") (codes " ") ∷ name_piece (codes "EMP") gap ∷ more

pub solve_line : (name : List ℕ) (names : List (List ℕ)) (g : Option (Sense × VarId)) → IsFree name → All IsFree names → SoundGoal (length names) g → Ends (codes "Solve " ++ name ++ codes " using EMP" ++ goal_text names g ++ codes ";\n") (λ text ss. Solves text name names g ss)
solve_line name names g free all_free h = ends (goal_pieces names g all_free h)
  where
    ends : GoalPieces names g → Ends (codes "Solve " ++ name ++ codes " using EMP" ++ goal_text names g ++ codes ";\n") (λ text ss. Solves text name names g ss)
    ends p = record {
      pieces = solve_pieces name p.gap (p.pieces ++ symbol_piece (codes ";") (codes "\n") ∷ []);
      is =
          ap (λ x. codes "Solve " ++ (name ++ codes " " ++ (codes "using " ++ (codes "EMP" ++ p.gap ++ x)))) (rendered_append p.pieces (symbol_piece (codes ";") (codes "\n") ∷ []))
          ∙ solve_bytes (codes "Solve ") name (codes " ") (codes "using ") (codes "EMP") p.gap (rendered p.pieces) (codes ";\n")
          ∙ ap (λ x. codes "Solve " ++ name ++ codes " using EMP" ++ x ++ codes ";\n") p.is;
      good =
          good_word true (codes "Solve") (codes " ") [] (name_piece name (codes " ") ∷ name_piece (codes "using") (codes " ") ∷ name_piece (codes "EMP") p.gap ∷ (p.pieces ++ symbol_piece (codes ";") (codes "\n") ∷ [])) (is_name (codes "Solve") refl refl refl) (inr (inl refl)) refl
          (good_word false name (codes " ") [] (name_piece (codes "using") (codes " ") ∷ name_piece (codes "EMP") p.gap ∷ (p.pieces ++ symbol_piece (codes ";") (codes "\n") ∷ [])) free.form (inr (inl refl)) refl
          (good_word false (codes "using") (codes " ") [] (name_piece (codes "EMP") p.gap ∷ (p.pieces ++ symbol_piece (codes ";") (codes "\n") ∷ [])) (is_name (codes "using") refl refl refl) (inr (inl refl)) refl
          (good_word false (codes "EMP") p.gap [] (p.pieces ++ symbol_piece (codes ";") (codes "\n") ∷ []) (is_name (codes "EMP") refl refl refl) p.is_gap p.begins p.good)));
      reads = λ text ts x. reads text ts x;
    }
      where
        file : (text : List ℕ) (k t u e z : Lexeme) (us : List Lexeme) → IsOf text (name_piece (codes "Solve") (codes " ")) k → IsOf text (name_piece name (codes " ")) t → IsOf text (name_piece (codes "using") (codes " ")) u → IsOf text (name_piece (codes "EMP") p.gap) e → ReadsGoal text names g us → IsOf text (symbol_piece (codes ";") (codes "\n")) z
            → ReadsFile (λ ss. Solves text name names g ss) (k ∷ t ∷ u ∷ e ∷ (us ++ z ∷ []))
        file text k t u e z us ok ot ou oe r oz =
            let named : t.sort ≡ Name free.word = ot.sort ∙ free.sort in
            record {
              statements = solve t r.goal ∷ [];
              are = record { lexeme = t; goal = r.goal; is = refl; spelled = ot.bytes; aims = r.aims };
              file = subst (λ xs. IsFile xs (solve t r.goal ∷ [])) (append-nil (k ∷ t ∷ u ∷ e ∷ (us ++ z ∷ [])))
                  (last (k ∷ t ∷ u ∷ e ∷ us ++ z ∷ []) [] (solve t r.goal) (is_solve k t u e z us r.goal ok.sort (free.word, named) ou.sort oe.sort r.stands oz.sort) no_semicolons);
              level =
                  flat k SolveSort (t ∷ u ∷ e ∷ (us ++ z ∷ [])) ok.sort refl
                  ∙ flat t (Name free.word) (u ∷ e ∷ (us ++ z ∷ [])) named refl
                  ∙ flat u (Name Using) (e ∷ (us ++ z ∷ [])) ou.sort refl
                  ∙ flat e (Name Emp) (us ++ z ∷ []) oe.sort refl
                  ∙ r.level (z ∷ [])
                  ∙ flat z Semicolon [] oz.sort refl;
            }

        tail : (text : List ℕ) (k t u e : Lexeme) (ts : List Lexeme) → IsOf text (name_piece (codes "Solve") (codes " ")) k → IsOf text (name_piece name (codes " ")) t → IsOf text (name_piece (codes "using") (codes " ")) u → IsOf text (name_piece (codes "EMP") p.gap) e → AreOf text (p.pieces ++ symbol_piece (codes ";") (codes "\n") ∷ []) ts
            → ReadsFile (λ ss. Solves text name names g ss) (k ∷ t ∷ u ∷ e ∷ ts)
        tail text k t u e ts ok ot ou oe x =
            parts text p.pieces (symbol_piece (codes ";") (codes "\n") ∷ []) (λ xs. ReadsFile (λ ss. Solves text name names g ss) (k ∷ t ∷ u ∷ e ∷ xs))
            (λ us vs a b. one text (symbol_piece (codes ";") (codes "\n")) [] (λ xs. ReadsFile (λ ss. Solves text name names g ss) (k ∷ t ∷ u ∷ e ∷ (us ++ xs)))
            (λ z ws oz c. none text (λ xs. ReadsFile (λ ss. Solves text name names g ss) (k ∷ t ∷ u ∷ e ∷ (us ++ z ∷ xs))) (file text k t u e z us ok ot ou oe (p.reads text us a) oz) ws c)
            vs b)
            ts x

        reads : (text : List ℕ) (ts : List Lexeme) → AreOf text (solve_pieces name p.gap (p.pieces ++ symbol_piece (codes ";") (codes "\n") ∷ [])) ts → ReadsFile (λ ss. Solves text name names g ss) ts
        reads text [] x = absurd x
        reads text (k ∷ []) x = absurd x.1
        reads text (k ∷ t ∷ []) x = absurd x.1.1
        reads text (k ∷ t ∷ u ∷ []) x = absurd x.1.1.1
        reads text (k ∷ t ∷ u ∷ e ∷ ts) x = tail text k t u e ts x.0 x.1.0 x.1.1.0 x.1.1.1.0 x.1.1.1.1

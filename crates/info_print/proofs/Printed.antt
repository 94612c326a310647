-- The canonical text of an annotation is one of words, and of what sorts they are.
use Rattle.std.proofs.Common.{◌≡◌, inl, inr, ℕ, Bool, true, false, nat_le, ◌&&◌, IsTrue, List, [], ◌∷◌, ◌++◌, length, All, codes, flat_map, slice_index, refl, sym, ap, subst, ◌∙◌, append_assoc, append-nil, arith}
use Rattle.std.proofs.lemmas.Bool.{and_parts}
use Rattle.std.proofs.lemmas.Bool.Decides.{nat_tests}
use Rattle.std.proofs.lemmas.List.Elements.{All-nil, All-cons}
use Rattle.emp_ast.specs.declared.tree.VarId.{VarId}
use Rattle.emp_ast.specs.declared.tree.EquId.{EquId}
use Rattle.emp_ast.specs.declared.model.Sense.{Sense}
use Rattle.emp_ast.specs.declared.model.Sense.TheVariants.{Min, Max}
use Rattle.emp_ast.specs.declared.model.Model.{Model}
use Rattle.emp_ast.specs.declared.annot.Block.{Block}
use Rattle.emp_ast.specs.declared.annot.Block.TheVariants.{Agent as AgentBlock, Vi as ViBlock}
use Rattle.emp_ast.specs.declared.annot.Annot.{Annot}
use Rattle.emp_lex.specs.declared.token.TokenKind.TheVariants.{Name}
use Rattle.emp_lex.specs.declared.scan.Class.TheVariants.{Word as WordByte}
use Rattle.emp_lex.specs.Bytes.{is_of, is_letter}
use Rattle.emp_lex.specs.Forms.{IsName}
use Rattle.info_read.specs.declared.lexeme.Sort.{Sort}
use Rattle.info_read.specs.declared.lexeme.Sort.TheVariants.{Equilibrium, Bilevel, Agent, Vi, Dualvar, Visol, Implicit, Variable, Equation}
use Rattle.info_read.specs.Lexemes.{IsSort}
use Rattle.info_print.specs.Canonical.{variable_word, equation_word, pair_words, variable_words, equation_words, head_line, sense_word, block_line, tie_line, visol_line, info_text}
use Rattle.info_print.proofs.Words.{Word, text_of, sorts_of, AreWords}
use Rattle.info_print.proofs.Rows.{variable_sorts, equation_sorts, pair_sorts, block_sorts, tie_sorts, visol_sorts, head_sorts, info_sorts}
use Rattle.info_print.proofs.Sound.{GoodVariable, GoodEquation, Each, GoodPair, GoodTie, GoodBlock, GoodAnnot}

-- ---- keywords
abbrev all_words : List ℕ → Bool
all_words [] = true
all_words (b ∷ bs) = is_of WordByte b && all_words bs

each_word : (bs : List ℕ) → all_words bs ≡ true → All (λ b. IsTrue (is_of WordByte b)) bs
each_word [] h = All-nil (λ b. IsTrue (is_of WordByte b))
each_word (b ∷ bs) h = let p = and_parts (is_of WordByte b) (all_words bs) h in All-cons (λ b. IsTrue (is_of WordByte b)) b bs p.0 (each_word bs p.1)

is_name : (bs : List ℕ) → is_letter (slice_index bs 0) ≡ true → all_words bs ≡ true → nat_le (length bs) 63 ≡ true → IsName bs
is_name bs h k l = record { letter = h; bytes = each_word bs k; short = grind (arith, nat_tests) }

module _ (m : Model) where
  -- ---- a name without the blank behind it
  record Spoken : Type 0 where
    bytes : List ℕ
    sort : Sort
    form : IsName bytes
    is : IsSort m Name bytes sort

  abbrev spaced : List Spoken → List ℕ
  spaced ns = flat_map (λ n. codes " " ++ n.bytes) ns

  abbrev spoken_sorts : List Spoken → List Sort
  spoken_sorts ns = flat_map (λ n. n.sort ∷ []) ns

  -- the text is names, each behind a space, of these sorts
  record IsSpaced (text : List ℕ) (ss : List Sort) : Type 0 where
    names : List Spoken
    text_is : spaced names ≡ text
    sorts_are : spoken_sorts names ≡ ss

  no_names : IsSpaced [] []
  no_names = record { names = []; text_is = refl; sorts_are = refl }

  flat_join : {X A : Type 0} (f : X → List A) (xs ys : List X) → flat_map f (xs ++ ys) ≡ flat_map f xs ++ flat_map f ys
  flat_join f [] ys = refl
  flat_join f (x ∷ xs) ys = ap (λ z. f x ++ z) (flat_join f xs ys) ∙ sym (append_assoc (f x) (flat_map f xs) (flat_map f ys))

  names_join : {t u : List ℕ} {r s : List Sort} → IsSpaced t r → IsSpaced u s → IsSpaced (t ++ u) (r ++ s)
  names_join {t = t} {r = r} a b = record {
    names = a.names ++ b.names;
    text_is = flat_join (λ n. codes " " ++ n.bytes) a.names b.names ∙ (ap (λ x. x ++ spaced b.names) a.text_is ∙ ap (λ x. t ++ x) b.text_is);
    sorts_are = flat_join (λ n. n.sort ∷ []) a.names b.names ∙ (ap (λ x. x ++ spoken_sorts b.names) a.sorts_are ∙ ap (λ x. r ++ x) b.sorts_are);
  }

  one_variable : (v : VarId) → GoodVariable m v → IsSpaced (variable_word m v) (Variable v ∷ [])
  one_variable v g = record { names = record { bytes = _; sort = Variable v; form = g.form; is = g.sort } ∷ []; text_is = append-nil (variable_word m v); sorts_are = refl }

  one_equation : (e : EquId) → GoodEquation m e → IsSpaced (equation_word m e) (Equation e ∷ [])
  one_equation e g = record { names = record { bytes = _; sort = Equation e; form = g.form; is = g.sort } ∷ []; text_is = append-nil (equation_word m e); sorts_are = refl }

  all_names : {X : Type 0} (P : X → Type 0) (f : X → List ℕ) (g : X → List Sort) → ((x : X) → P x → IsSpaced (f x) (g x)) → (xs : List X) → Each P xs → IsSpaced (flat_map f xs) (flat_map g xs)
  all_names P f g one [] h = no_names
  all_names P f g one (x ∷ xs) h = names_join (one x h.0) (all_names P f g one xs h.1)

  variables_spaced : (vs : List VarId) → Each (GoodVariable m) vs → IsSpaced (variable_words m vs) (variable_sorts vs)
  variables_spaced vs h = all_names (GoodVariable m) (variable_word m) (λ v. Variable v ∷ []) one_variable vs h

  equations_spaced : (es : List EquId) → Each (GoodEquation m) es → IsSpaced (equation_words m es) (equation_sorts es)
  equations_spaced es h = all_names (GoodEquation m) (equation_word m) (λ e. Equation e ∷ []) one_equation es h

  pairs_spaced : (ps : List (EquId × VarId)) → Each (GoodPair m) ps → IsSpaced (flat_map (pair_words m) ps) (pair_sorts ps)
  pairs_spaced ps h = all_names (GoodPair m) (pair_words m) (λ p. Equation p.0 ∷ Variable p.1 ∷ []) (λ p g. names_join (one_equation p.0 g.0) (one_variable p.1 g.1)) ps h

  -- ---- lines
  -- the text is words of these sorts
  pub record IsSaid (text : List ℕ) (ss : List Sort) : Type 0 where
    pub words : List Word
    pub are : AreWords m words
    pub text_is : text_of words ≡ text
    pub sorts_are : sorts_of words ≡ ss

  text_join : (ws vs : List Word) → text_of (ws ++ vs) ≡ text_of ws ++ text_of vs
  text_join [] vs = refl
  text_join (w ∷ ws) vs = ap (λ x. w.bytes ++ (w.blank ∷ x)) (text_join ws vs) ∙ sym (append_assoc w.bytes (w.blank ∷ text_of ws) (text_of vs))

  sorts_join : (ws vs : List Word) → sorts_of (ws ++ vs) ≡ sorts_of ws ++ sorts_of vs
  sorts_join [] vs = refl
  sorts_join (w ∷ ws) vs = ap (λ x. w.sort ∷ x) (sorts_join ws vs)

  words_join : (ws vs : List Word) → AreWords m ws → AreWords m vs → AreWords m (ws ++ vs)
  words_join [] vs h k = k
  words_join (w ∷ ws) vs h k = (h.0, words_join ws vs h.1 k)

  nothing_said : IsSaid [] []
  nothing_said = record { words = []; are = tt; text_is = refl; sorts_are = refl }

  said_join : {t u : List ℕ} {r s : List Sort} → IsSaid t r → IsSaid u s → IsSaid (t ++ u) (r ++ s)
  said_join {t = t} {r = r} a b = record {
    words = a.words ++ b.words;
    are = words_join a.words b.words a.are b.are;
    text_is = text_join a.words b.words ∙ (ap (λ x. x ++ text_of b.words) a.text_is ∙ ap (λ x. t ++ x) b.text_is);
    sorts_are = sorts_join a.words b.words ∙ (ap (λ x. x ++ sorts_of b.words) a.sorts_are ∙ ap (λ x. r ++ x) b.sorts_are);
  }

  -- the words of a line, of which the last ends it
  line_words : Spoken → List Spoken → List Word
  line_words n [] = record { bytes = n.bytes; sort = n.sort; blank = 10 } ∷ []
  line_words n (o ∷ ns) = record { bytes = n.bytes; sort = n.sort; blank = 32 } ∷ line_words o ns

  line_good : (n : Spoken) (ns : List Spoken) → AreWords m (line_words n ns)
  unfolding line_words
  line_good n [] = (record { form = n.form; sort = n.is; blank = inr refl }, tt)
  line_good n (o ∷ ns) = (record { form = n.form; sort = n.is; blank = inl refl }, line_good o ns)

  line_sorts : (n : Spoken) (ns : List Spoken) → sorts_of (line_words n ns) ≡ n.sort ∷ spoken_sorts ns
  unfolding line_words
  line_sorts n [] = refl
  line_sorts n (o ∷ ns) = ap (λ x. n.sort ∷ x) (line_sorts o ns)

  line_text : (n : Spoken) (ns : List Spoken) → text_of (line_words n ns) ≡ n.bytes ++ spaced ns ++ codes "\n"
  unfolding line_words
  line_text n [] = ap (λ x. x ++ codes "\n") (sym (append-nil n.bytes))
  line_text n (o ∷ ns) = ap (λ x. n.bytes ++ (32 ∷ x)) (line_text o ns) ∙ sym (append_assoc n.bytes (spaced (o ∷ ns)) (codes "\n"))

  line : (word : List ℕ) (s : Sort) → IsName word → IsSort m Name word s → {t : List ℕ} {ss : List Sort} → IsSpaced t ss → IsSaid (word ++ t ++ codes "\n") (s ∷ ss)
  line word s f i h =
      let first : Spoken = record { bytes = word; sort = s; form = f; is = i } in
      record {
        words = line_words first h.names;
        are = line_good first h.names;
        text_is = line_text first h.names ∙ ap (λ x. word ++ x ++ codes "\n") h.text_is;
        sorts_are = line_sorts first h.names ∙ ap (λ x. s ∷ x) h.sorts_are;
      }

  all_said : {X : Type 0} (P : X → Type 0) (f : X → List ℕ) (g : X → List Sort) → ((x : X) → P x → IsSaid (f x) (g x)) → (xs : List X) → Each P xs → IsSaid (flat_map f xs) (flat_map g xs)
  all_said P f g one [] h = nothing_said
  all_said P f g one (x ∷ xs) h = said_join (one x h.0) (all_said P f g one xs h.1)

  -- ---- the lines of an annotation
  head_said : (b : Bool) (leader : List VarId) → Each (GoodVariable m) leader → IsSaid (head_line m b leader) (head_sorts b leader)
  head_said true leader h = line (codes "bilevel") Bilevel (is_name (codes "bilevel") refl refl refl) refl (variables_spaced leader h)
  head_said false leader h = line (codes "equilibrium") Equilibrium (is_name (codes "equilibrium") refl refl refl) refl no_names

  sense_line : (sense : Sense) {t : List ℕ} {ss : List Sort} → IsSpaced t ss → IsSaid (sense_word sense ++ t ++ codes "\n") (Agent sense ∷ ss)
  sense_line Min h = line (codes "min") (Agent Min) (is_name (codes "min") refl refl refl) refl h
  sense_line Max h = line (codes "max") (Agent Max) (is_name (codes "max") refl refl refl) refl h

  block_said : (b : Block) → GoodBlock m b → IsSaid (block_line m b) (block_sorts b)
  block_said (AgentBlock sense o vs es) h =
      subst (λ x. IsSaid (x ++ codes "\n") (block_sorts (AgentBlock sense o vs es)))
      (sym (append_assoc (sense_word sense) (variable_word m o ++ variable_words m vs) (equation_words m es)) ∙ ap (λ x. x ++ equation_words m es) (sym (append_assoc (sense_word sense) (variable_word m o) (variable_words m vs))))
      (sense_line sense (names_join (names_join (one_variable o h.0) (variables_spaced vs h.1.0)) (equations_spaced es h.1.1)))
  block_said (ViBlock vs ps es) h =
      subst (λ x. IsSaid (x ++ codes "\n") (block_sorts (ViBlock vs ps es)))
      (sym (append_assoc (codes "vi") (variable_words m vs ++ flat_map (pair_words m) ps) (equation_words m es)) ∙ ap (λ x. x ++ equation_words m es) (sym (append_assoc (codes "vi") (variable_words m vs) (flat_map (pair_words m) ps))))
      (line (codes "vi") Vi (is_name (codes "vi") refl refl refl) refl (names_join (names_join (variables_spaced vs h.0) (pairs_spaced ps h.1.0)) (equations_spaced es h.1.1)))

  tie_said : (word : List ℕ) (s : Sort) → IsName word → IsSort m Name word s → (d : VarId × EquId) → GoodTie m d → IsSaid (tie_line word m d) (tie_sorts s d)
  tie_said word s f i d h =
      subst (λ x. IsSaid (x ++ codes "\n") (tie_sorts s d)) (sym (append_assoc word (variable_word m d.0) (equation_word m d.1)))
      (line word s f i (names_join (one_variable d.0 h.0) (one_equation d.1 h.1)))

  visol_said : (e : EquId) → GoodEquation m e → IsSaid (visol_line m e) (visol_sorts e)
  visol_said e h = line (codes "visol") Visol (is_name (codes "visol") refl refl refl) refl (one_equation e h)

  pub info_said : (a : Annot) → GoodAnnot m a → IsSaid (info_text m a) (info_sorts a)
  info_said a g =
      said_join
      (said_join
      (said_join (said_join (head_said a.bilevel a.leader g.leader) (all_said (GoodBlock m) (block_line m) block_sorts block_said a.blocks g.blocks)) (all_said (GoodTie m) (tie_line (codes "dualvar") m) (tie_sorts Dualvar) (tie_said (codes "dualvar") Dualvar (is_name (codes "dualvar") refl refl refl) refl) a.duals g.duals))
      (all_said (GoodEquation m) (visol_line m) visol_sorts visol_said a.visols g.visols))
      (all_said (GoodTie m) (tie_line (codes "implicit") m) (tie_sorts Implicit) (tie_said (codes "implicit") Implicit (is_name (codes "implicit") refl refl refl) refl) a.implicits g.implicits)

-- What some text names is printed as a name that is read as the same variable or equation.
use Rattle.std.proofs.Common.{◌≡◌, ℕ, ◌≤◌, Bool, true, false, cond, IsTrue, List, [], ◌∷◌, ◌++◌, length, All, Option, Some, None, get_or, refl, sym, ap, subst, ◌∙◌, arith, slice_range, bytes_eq}
use Rattle.std.specs.Char.{to_ascii_lowercase}
use Rattle.std.proofs.lemmas.Bool.Decides.{nat_tests}
use Rattle.std.proofs.lemmas.List.{length-map}
use Rattle.std.proofs.lemmas.List.Elements.{All-nil, All-cons, All-head, All-tail}
use Rattle.emp_list.specs.Case.{lower, SameName}
use Rattle.emp_ast.specs.declared.tree.VarId.{VarId}
use Rattle.emp_ast.specs.declared.tree.EquId.{EquId}
use Rattle.emp_ast.specs.declared.model.Model.{Model}
use Rattle.emp_ast.specs.declared.annot.Block.{Block}
use Rattle.emp_ast.specs.declared.annot.Block.TheVariants.{Agent as AgentBlock, Vi as ViBlock}
use Rattle.emp_ast.specs.declared.annot.Annot.{Annot}
use Rattle.emp_ast.specs.Names.{FindsVariable, FindsEquation}
use Rattle.emp_lex.specs.declared.token.Token.{Token}
use Rattle.emp_lex.specs.declared.token.TokenKind.{TokenKind}
use Rattle.emp_lex.specs.declared.token.TokenKind.TheVariants.{Name, Numeral, Text, Relation, Symbol}
use Rattle.emp_lex.specs.declared.scan.Class.TheVariants.{Word as WordByte}
use Rattle.emp_lex.specs.Bytes.{is_of, is_letter}
use Rattle.emp_lex.specs.Forms.{IsName, HasForm, IsFormed}
use Rattle.emp_lex.specs.Words.{of_words}
use Rattle.emp_lex.proofs.TokenBytes.{tokens_formed}
use Rattle.info_read.specs.declared.lexeme.Sort.{Sort}
use Rattle.info_read.specs.declared.lexeme.Sort.TheVariants.{Variable, Equation}
use Rattle.info_read.specs.declared.lexeme.Lexeme.{Lexeme}
use Rattle.info_read.specs.Lexemes.{keywords, keyword, IsNoun, a_variable, an_equation, unknown, IsNameSort, IsSort, AreLexemes}
use Rattle.info_read.specs.Texts.{HasLexemes}
use Rattle.info_read.specs.Grammar.{AreVariables, no_variables, one_variable_more, AreEquations, no_equations, one_equation_more, ArePairs, no_pairs, one_pair_more, AreTies, no_ties, one_tie_more, Item, block, IsItem, is_agent, is_vi, are_duals, are_visols, are_implicits, with_item, HasItems, equilibrium, bilevel, one_item_more}
use Rattle.info_print.specs.Canonical.{variable_name, equation_name}
use Rattle.info_print.proofs.Rows.{IsFull, EachFull, IsHead}

-- ---- names that differ in case alone
word_lower : (b : ℕ) → is_of WordByte b ≡ true → is_of WordByte (to_ascii_lowercase b) ≡ true
word_lower b h = grind (arith, nat_tests)

lower_word : (b : ℕ) → is_of WordByte (to_ascii_lowercase b) ≡ true → is_of WordByte b ≡ true
lower_word b h = grind (arith, nat_tests)

letter_lower : (b : ℕ) → is_letter b ≡ true → is_letter (to_ascii_lowercase b) ≡ true
letter_lower b h = grind (arith, nat_tests)

lower_letter : (b : ℕ) → is_letter (to_ascii_lowercase b) ≡ true → is_letter b ≡ true
lower_letter b h = grind (arith, nat_tests)

first_lower : (bs : List ℕ) → get_or (lower bs) 0 0 ≡ to_ascii_lowercase (get_or bs 0 0)
first_lower [] = refl
first_lower (b ∷ bs) = refl

abbrev IsWordByte : ℕ → Type 0
IsWordByte b = IsTrue (is_of WordByte b)

words_same : (cs bs : List ℕ) → lower cs ≡ lower bs → All IsWordByte bs → All IsWordByte cs
words_same [] bs e h = All-nil IsWordByte
words_same (a ∷ cs) [] e h = let f : ◌≡◌ {A = List ℕ} (to_ascii_lowercase a ∷ lower cs) [] = e in cc
words_same (a ∷ cs) (b ∷ bs) e h =
    let f : ◌≡◌ {A = List ℕ} (to_ascii_lowercase a ∷ lower cs) (to_ascii_lowercase b ∷ lower bs) = e in
    let same : to_ascii_lowercase a ≡ to_ascii_lowercase b = cc in
    let rest : lower cs ≡ lower bs = cc in
    All-cons IsWordByte a cs (lower_word a (ap (is_of WordByte) same ∙ word_lower b (All-head IsWordByte b bs h))) (words_same cs bs rest (All-tail IsWordByte b bs h))

same_form : (cs bs : List ℕ) → SameName cs bs → IsName bs → IsName cs
same_form cs bs e h =
    let l : length cs ≡ length bs = sym (length-map cs to_ascii_lowercase) ∙ (ap length e ∙ length-map bs to_ascii_lowercase) in
    record {
      letter = lower_letter (get_or cs 0 0) (ap is_letter (sym (first_lower cs) ∙ (ap (λ x. get_or x 0 0) e ∙ first_lower bs)) ∙ letter_lower (get_or bs 0 0) h.letter);
      bytes = words_same cs bs e h.bytes;
      short = subst (λ n. n ≤ 63) (sym l) h.short;
    }

same_keyword : (cs bs : List ℕ) → SameName cs bs → keyword bs ≡ None → keyword cs ≡ None
same_keyword cs bs e h = ap (of_words None keywords) e ∙ h

-- ---- variables and equations that are read again
pub record GoodVariable (m : Model) (v : VarId) : Type 0 where
  pub form : IsName (variable_name m v)
  pub sort : IsSort m Name (variable_name m v) (Variable v)

pub record GoodEquation (m : Model) (e : EquId) : Type 0 where
  pub form : IsName (equation_name m e)
  pub sort : IsSort m Name (equation_name m e) (Equation e)

abbrev pub Each : {X : Type 0} → (X → Type 0) → List X → Type 0
Each P [] = Unit {0}
Each P (x ∷ xs) = P x × Each P xs

each_push : {X : Type 0} (P : X → Type 0) (xs : List X) (x : X) → Each P xs → P x → Each P (xs ++ x ∷ [])
each_push P [] x h p = (p, tt)
each_push P (y ∷ xs) x h p = (h.0, each_push P xs x h.1 p)

each_front : {X : Type 0} (P : X → Type 0) (xs ys : List X) → Each P (xs ++ ys) → Each P xs
each_front P [] ys h = tt
each_front P (x ∷ xs) ys h = (h.0, each_front P xs ys h.1)

each_back : {X : Type 0} (P : X → Type 0) (xs ys : List X) → Each P (xs ++ ys) → Each P ys
each_back P [] ys h = h
each_back P (x ∷ xs) ys h = each_back P xs ys h.1

each_append : {X : Type 0} (P : X → Type 0) (xs ys : List X) → Each P xs → Each P ys → Each P (xs ++ ys)
each_append P [] ys h k = k
each_append P (x ∷ xs) ys h k = (h.0, each_append P xs ys h.1 k)

module _ (m : Model) where
  abbrev pub IsGood : Sort → Type 0
  IsGood (Variable v) = GoodVariable m v
  IsGood (Equation e) = GoodEquation m e
  IsGood s = Unit {0}

  by_keyword : (name : List ℕ) (o : Option Sort) (s : Sort) → keyword name ≡ o → o ≡ None → IsNameSort m name o s → IsNoun m name s
  by_keyword name None s e n h = h
  by_keyword name (Some k) s e n h = cc

  named_sort : (name : List ℕ) (s : Sort) (o : Option Sort) → o ≡ None → IsNoun m name s → IsNameSort m name o s
  named_sort name s None n h = h
  named_sort name s (Some k) n h = cc

  good_variable : (name : List ℕ) (v : VarId) → IsName name → keyword name ≡ None → FindsVariable m name (Some v) → GoodVariable m v
  good_variable name v form free h = record {
    form = same_form (variable_name m v) name h.1 form;
    sort = named_sort (variable_name m v) (Variable v) (keyword (variable_name m v)) (same_keyword (variable_name m v) name h.1 free) (a_variable v (h.0, refl));
  }

  good_equation : (name : List ℕ) (e : EquId) → IsName name → keyword name ≡ None → FindsVariable m name None → FindsEquation m name (Some e) → GoodEquation m e
  good_equation name e form free none h = record {
    form = same_form (equation_name m e) name h.1 form;
    sort = named_sort (equation_name m e) (Equation e) (keyword (equation_name m e)) (same_keyword (equation_name m e) name h.1 free) (an_equation e (λ i d l same. none i d l (same ∙ h.1)) (h.0, refl));
  }

  noun_good : (name : List ℕ) (s : Sort) → IsName name → keyword name ≡ None → IsNoun m name s → IsGood s
  noun_good name s form free (a_variable v h) = good_variable name v form free h
  noun_good name s form free (an_equation e none h) = good_equation name e form free none h
  noun_good name s form free (unknown none n) = tt

  -- no keyword is a variable or an equation
  abbrev NoNoun : Option Sort → Type 0
  NoNoun (Some s) = IsGood s
  NoNoun None = Unit {0}

  either_good : (b : Bool) (o p : Option Sort) → NoNoun o → NoNoun p → NoNoun (cond b o p)
  either_good true o p h k = h
  either_good false o p h k = k

  words_good : (ws : List (List ℕ × Option Sort)) (bs : List ℕ) → Each (λ w. NoNoun w.1) ws → NoNoun (of_words None ws bs)
  words_good [] bs h = tt
  words_good (w ∷ ws) bs h = either_good (bytes_eq bs w.0) w.1 (of_words None ws bs) h.0 (words_good ws bs h.1)

  keyword_good : (name : List ℕ) → NoNoun (keyword name)
  keyword_good name = words_good keywords (lower name) (tt, (tt, (tt, (tt, (tt, (tt, (tt, (tt, (tt, (tt, (tt, tt)))))))))))

  name_good : (name : List ℕ) (s : Sort) (o : Option Sort) → keyword name ≡ o → IsName name → IsNameSort m name o s → IsGood s
  name_good name s None e form h = noun_good name s form e h
  name_good name s (Some k) e form h = subst IsGood (sym h) (subst NoNoun e (keyword_good name))

  sort_good : (kind : TokenKind) (bytes : List ℕ) (s : Sort) → HasForm kind bytes → IsSort m kind bytes s → IsGood s
  sort_good Name bytes s f h = name_good bytes s (keyword bytes) refl f h
  sort_good Numeral bytes s f h = subst IsGood (sym h) tt
  sort_good Text bytes s f h = subst IsGood (sym h) tt
  sort_good Relation bytes s f h = subst IsGood (sym h) tt
  sort_good Symbol bytes s f h = subst IsGood (sym h) tt

  abbrev AreGood : List Lexeme → Type 0
  AreGood ts = Each (λ t. IsGood t.sort) ts

  good_from : (text : List ℕ) (ks : List Token) (ts : List Lexeme) → All (IsFormed text) ks → AreLexemes text m ks ts → AreGood ts
  good_from text [] [] f h = tt
  good_from text [] (t ∷ ts) f h = absurd h
  good_from text (k ∷ ks) [] f h = absurd h
  good_from text (k ∷ ks) (t ∷ ts) f h = (sort_good k.kind (slice_range text k.from k.to) t.sort (All-head (IsFormed text) k ks f) h.0.sort, good_from text ks ts (All-tail (IsFormed text) k ks f) h.1)

  pub lexemes_good : (text : List ℕ) (ts : List Lexeme) → HasLexemes text m ts → AreGood ts
  lexemes_good text ts h = good_from text h.tokens ts (tokens_formed text h.tokens h.cut) h.are

  -- ---- lists
  abbrev pub GoodPair : EquId × VarId → Type 0
  GoodPair p = GoodEquation m p.0 × GoodVariable m p.1

  abbrev pub GoodTie : VarId × EquId → Type 0
  GoodTie d = GoodVariable m d.0 × GoodEquation m d.1

  last_good : (ts : List Lexeme) (t : Lexeme) (s : Sort) → AreGood (ts ++ t ∷ []) → t.sort ≡ s → IsGood s
  last_good ts t s h e = subst IsGood e (each_back (λ t. IsGood t.sort) ts (t ∷ []) h).0

  variables_good : {ts : List Lexeme} {vs : List VarId} → AreVariables ts vs → AreGood ts → Each (GoodVariable m) vs
  variables_good no_variables g = tt
  variables_good (one_variable_more ts vs t v h e) g = each_push (GoodVariable m) vs v (variables_good h (each_front (λ t. IsGood t.sort) ts (t ∷ []) g)) (last_good ts t (Variable v) g e)

  equations_good : {ts : List Lexeme} {es : List EquId} → AreEquations ts es → AreGood ts → Each (GoodEquation m) es
  equations_good no_equations g = tt
  equations_good (one_equation_more ts es t e h q) g = each_push (GoodEquation m) es e (equations_good h (each_front (λ t. IsGood t.sort) ts (t ∷ []) g)) (last_good ts t (Equation e) g q)

  pairs_good : {ts : List Lexeme} {ps : List (EquId × VarId)} → ArePairs ts ps → AreGood ts → Each GoodPair ps
  pairs_good no_pairs g = tt
  pairs_good (one_pair_more ts ps t u e v h p q) g =
      let l = each_back (λ t. IsGood t.sort) ts (t ∷ u ∷ []) g in
      each_push GoodPair ps (e, v) (pairs_good h (each_front (λ t. IsGood t.sort) ts (t ∷ u ∷ []) g)) (subst IsGood p l.0, subst IsGood q l.1.0)

  ties_good : {ts : List Lexeme} {ps : List (VarId × EquId)} → AreTies ts ps → AreGood ts → Each GoodTie ps
  ties_good no_ties g = tt
  ties_good (one_tie_more ts ps t u v e h p q) g =
      let l = each_back (λ t. IsGood t.sort) ts (t ∷ u ∷ []) g in
      each_push GoodTie ps (v, e) (ties_good h (each_front (λ t. IsGood t.sort) ts (t ∷ u ∷ []) g)) (subst IsGood p l.0, subst IsGood q l.1.0)

  -- ---- annotations
  abbrev pub GoodBlock : Block → Type 0
  GoodBlock (AgentBlock sense o vs es) = GoodVariable m o × (Each (GoodVariable m) vs × Each (GoodEquation m) es)
  GoodBlock (ViBlock vs ps es) = Each (GoodVariable m) vs × (Each GoodPair ps × Each (GoodEquation m) es)

  pub record GoodAnnot (a : Annot) : Type 0 where
    pub head : IsHead a.bilevel a.leader
    pub leader : Each (GoodVariable m) a.leader
    pub full : EachFull a.blocks
    pub blocks : Each GoodBlock a.blocks
    pub duals : Each GoodTie a.duals
    pub visols : Each (GoodEquation m) a.visols
    pub implicits : Each GoodTie a.implicits

  full_push : (bs : List Block) (b : Block) → EachFull bs → IsFull b → EachFull (bs ++ b ∷ [])
  full_push [] b h p = (p, tt)
  full_push (c ∷ bs) b h p = (h.0, full_push bs b h.1 p)

  with_block : (a : Annot) (b : Block) → GoodAnnot a → IsFull b → GoodBlock b → GoodAnnot (with_item a (block b))
  with_block a b g f h = record { head = g.head; leader = g.leader; full = full_push a.blocks b g.full f; blocks = each_push GoodBlock a.blocks b g.blocks h; duals = g.duals; visols = g.visols; implicits = g.implicits }

  abbrev front : (ts us : List Lexeme) → AreGood (ts ++ us) → AreGood ts
  front ts us g = each_front (λ t. IsGood t.sort) ts us g

  abbrev back : (ts us : List Lexeme) → AreGood (ts ++ us) → AreGood us
  back ts us g = each_back (λ t. IsGood t.sort) ts us g

  with_good : (a : Annot) {us : List Lexeme} {i : Item} → GoodAnnot a → IsItem us i → AreGood us → GoodAnnot (with_item a i)
  with_good a g (is_agent k t sense o ts us vs es p q h l) f =
      with_block a (AgentBlock sense o vs es) g tt (subst IsGood q f.1.0, (variables_good h (front ts us f.1.1), equations_good l (back ts us f.1.1)))
  with_good a g (is_vi k ts us ws vs ps es p h l n some) f =
      with_block a (ViBlock vs ps es) g some (variables_good h (front ts us (front (ts ++ us) ws f.1)), (pairs_good l (back ts us (front (ts ++ us) ws f.1)), equations_good n (back (ts ++ us) ws f.1)))
  with_good a g (are_duals k ts ps p h some) f = record { head = g.head; leader = g.leader; full = g.full; blocks = g.blocks; duals = each_append GoodTie a.duals ps g.duals (ties_good h f.1); visols = g.visols; implicits = g.implicits }
  with_good a g (are_visols k ts es p h some) f = record { head = g.head; leader = g.leader; full = g.full; blocks = g.blocks; duals = g.duals; visols = each_append (GoodEquation m) a.visols es g.visols (equations_good h f.1); implicits = g.implicits }
  with_good a g (are_implicits k ts ps p h some) f = record { head = g.head; leader = g.leader; full = g.full; blocks = g.blocks; duals = g.duals; visols = g.visols; implicits = each_append GoodTie a.implicits ps g.implicits (ties_good h f.1) }

  pub annot_good : {ts : List Lexeme} {a : Annot} → HasItems ts a → AreGood ts → GoodAnnot a
  annot_good (equilibrium t e) g = record { head = refl; leader = tt; full = tt; blocks = tt; duals = tt; visols = tt; implicits = tt }
  annot_good (bilevel t ts vs e h) g = record { head = tt; leader = variables_good h g.1; full = tt; blocks = tt; duals = tt; visols = tt; implicits = tt }
  annot_good (one_item_more ts us a i h k) g = with_good a (annot_good h (front ts us g)) k (back ts us g)

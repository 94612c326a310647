-- Each text stands for a model or has a fault.
use Rattle.std.proofs.Common.{◌≡◌, ◌⊎◌, inl, inr, ℕ, List, [], ◌∷◌, Option, Some, None, Result, Ok, Err, refl}
use Rattle.std.specs.Prelude.{All, slice_range}
use Rattle.std.proofs.lemmas.List.Elements.{All-head, All-tail}
use Rattle.emp_num.specs.declared.frac.Frac.{Frac}
use Rattle.emp_numeral.specs.declared.numeral.NumeralFault.TheVariants.{Wide}
use Rattle.emp_numeral.specs.Numeral.{NumeralGives}
use Rattle.emp_ast.specs.declared.tree.Place.{Place}
use Rattle.emp_ast.specs.declared.model.Model.{Model}
use Rattle.emp_lex.specs.declared.token.Token.{Token}
use Rattle.emp_lex.specs.declared.token.TokenKind.{TokenKind}
use Rattle.emp_lex.specs.declared.token.TokenKind.TheVariants.{Name as NameToken, Numeral as NumeralToken, Text as TextToken, Relation as RelationToken, Symbol as SymbolToken}
use Rattle.emp_lex.specs.declared.fault.LexFault.{LexFault}
use Rattle.emp_lex.specs.Tokens.{IsTokenList, IsFirstFault, IsTooWide, past, start}
use Rattle.emp_lex.specs.Forms.{HasForm, IsFormed}
use Rattle.emp_lex.proofs.TokenBytes.{tokens_formed}
use Rattle.emp_lex.proofs.Existing.{numeral_exists, list_or_fault}
use Rattle.gms_grammar.specs.declared.kind.Kind.{Kind}
use Rattle.gms_grammar.specs.declared.lexeme.Sort.{Sort}
use Rattle.gms_grammar.specs.declared.lexeme.Sort.TheVariants.{Numeral, Text, Relation}
use Rattle.gms_grammar.specs.declared.lexeme.Lexeme.{Lexeme}
use Rattle.gms_grammar.specs.declared.item.Item.{Item}
use Rattle.gms_grammar.specs.declared.fault.ModelFault.{ModelFault}
use Rattle.gms_grammar.specs.declared.fault.ModelFault.TheVariants.{Lex, Syntax, TooLarge}
use Rattle.gms_grammar.specs.Lexemes.{IsSort, IsLexeme, AreLexemes, word_sort, relation_of, symbol_sort}
use Rattle.gms_grammar.specs.Nesting.{too_deep}
use Rattle.gms_read.specs.Rules.{whole_meaning}
use Rattle.gms_grammar.specs.Steps.{AreItems}
use Rattle.gms_read.specs.Texts.{HasLexemes, HasStatementsOf, GivesOf, HasFaultOf}
use Rattle.gms_grammar.proofs.Sorts.{IsNarrow, tokens_narrow}
use Rattle.gms_read.proofs.Reading.{rule_fault, meaning_rule}
use Rattle.gms_grammar.proofs.Places.{Judged, right, wrong, judge}

-- ---- lexemes
sort_exists : (kind : TokenKind) (bs : List ℕ) → HasForm kind bs → (IsTooWide kind bs → ⊥) → (s : Sort) × IsSort kind bs s
sort_exists NameToken bs h n = (word_sort bs, refl)
sort_exists NumeralToken bs h n = go (numeral_exists bs h)
  where
    go : ((f : Frac) × NumeralGives bs (Ok f)) ⊎ NumeralGives bs (Err Wide) → (s : Sort) × IsSort NumeralToken bs s
    go (inl (f, k)) = (Numeral f, (f, refl, k))
    go (inr w) = absurd (n w)
sort_exists TextToken bs h n = (Text, refl)
sort_exists RelationToken bs h n = (Relation (relation_of bs), refl)
sort_exists SymbolToken bs h n = (symbol_sort bs, refl)

lexeme_exists : (text : List ℕ) (k : Token) → IsFormed text k → IsNarrow text k → (t : Lexeme) × IsLexeme text k t
lexeme_exists text k f n =
    let s = sort_exists k.kind (slice_range text k.from k.to) f n in
    (record { sort = s.0; from = k.from; to = k.to; place = k.place }, record { sort = s.1; from = refl; to = refl; place = refl })

lexemes_exist : (text : List ℕ) (ks : List Token) → All (IsFormed text) ks → All (IsNarrow text) ks → (ts : List Lexeme) × AreLexemes text ks ts
lexemes_exist text [] f n = ([], tt)
lexemes_exist text (k ∷ ks) f n =
    let t = lexeme_exists text k (All-head (IsFormed text) k ks f) (All-head (IsNarrow text) k ks n) in
    let ts = lexemes_exist text ks (All-tail (IsFormed text) k ks f) (All-tail (IsNarrow text) k ks n) in
    (t.0 ∷ ts.0, (t.1, ts.1))

-- ---- texts
abbrev pub ModelOrFault : Kind → List ℕ → Type 0
ModelOrFault kind text = ((m : Model) × GivesOf kind text (Ok m)) ⊎ ((f : ModelFault) × HasFaultOf kind text f)

module _ (kind : Kind) (text : List ℕ) where
  from_items : (ts : List Lexeme) (items : List Item) → HasLexemes text ts → too_deep ts ≡ None → AreItems kind ts items → ModelOrFault kind text
  from_items ts items h d a = go (whole_meaning text a.statements) refl
    where
      has : HasStatementsOf kind text a.statements
      has = record { lexemes = ts; has = h; level = d; file = a.file }

      go : (r : Result Model ModelFault) → whole_meaning text a.statements ≡ r → ModelOrFault kind text
      go (Ok m) e = inl (m, record { statements = a.statements; has = has; is = e })
      go (Err f) e = inr (f, rule_fault kind text f (meaning_rule text a.statements f e) record { statements = a.statements; has = has; is = e })

  from_lexemes : (ts : List Lexeme) → HasLexemes text ts → ModelOrFault kind text
  from_lexemes ts h = go (too_deep ts) refl
    where
      judged : too_deep ts ≡ None → Judged kind ts (past start text) → ModelOrFault kind text
      judged d (right items a) = from_items ts items h d a
      judged d (wrong p w) = inr (Syntax p, record { lexemes = ts; has = h; level = d; wrong = w })

      go : (o : Option Place) → too_deep ts ≡ o → ModelOrFault kind text
      go (Some p) e = inr (TooLarge p, inl record { lexemes = ts; has = h; is = e })
      go None e = judged e (judge kind ts (past start text))

  from_tokens : (ks : List Token) → IsTokenList text ks → ModelOrFault kind text
  from_tokens ks h =
      let ts = lexemes_exist text ks (tokens_formed text ks h) (tokens_narrow text ks h) in
      from_lexemes ts.0 record { tokens = ks; cut = h; are = ts.1 }

  pub model_or_fault : ModelOrFault kind text
  model_or_fault = go (list_or_fault text)
    where
      go : ((ts : List Token) × IsTokenList text ts) ⊎ ((f : LexFault) × IsFirstFault text f) → ModelOrFault kind text
      go (inl (ks, h)) = from_tokens ks h
      go (inr (f, h)) = inr (Lex f, h)

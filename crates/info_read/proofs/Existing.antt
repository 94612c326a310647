-- Each text stands for an annotation of the model or has a first fault.
use Rattle.std.proofs.Common.{◌≡◌, ◌⊎◌, inl, inr, ℕ, suc, Bool, true, false, List, [], ◌∷◌, ◌++◌, Option, Some, None, refl, sym, subst, arith, append_assoc, append-nil, slice_range, bytes_eq}
use Rattle.std.proofs.lemmas.List.Elements.{All-nil, All-cons}
use Rattle.std.proofs.lemmas.Slice.Eq.{bytes_eq-Decides}
use Rattle.emp_list.specs.Case.{lower, SameName}
use Rattle.emp_ast.specs.declared.model.Model.{Model}
use Rattle.emp_ast.specs.declared.tree.Place.{Place}
use Rattle.emp_ast.specs.declared.annot.Annot.{Annot}
use Rattle.emp_ast.specs.Names.{variable_names, equation_names, Finds}
use Rattle.emp_lex.specs.declared.token.Token.{Token}
use Rattle.emp_lex.specs.declared.token.TokenKind.{TokenKind}
use Rattle.emp_lex.specs.declared.token.TokenKind.TheVariants.{Name, Numeral, Text, Relation, Symbol}
use Rattle.emp_lex.specs.declared.fault.LexFault.{LexFault}
use Rattle.emp_lex.specs.Tokens.{IsTokenList, IsFirstFault, past, start}
use Rattle.emp_lex.proofs.Existing.{list_or_fault}
use Rattle.info_read.specs.declared.lexeme.Sort.{Sort}
use Rattle.info_read.specs.declared.lexeme.Sort.TheVariants.{Variable, Equation, Unknown, Mark}
use Rattle.info_read.specs.declared.lexeme.Lexeme.{Lexeme}
use Rattle.info_read.specs.declared.fault.InfoFault.{InfoFault}
use Rattle.info_read.specs.declared.fault.InfoFault.TheVariants.{Lex, Syntax}
use Rattle.info_read.specs.declared.draft.Draft.{Draft}
use Rattle.info_read.specs.Lexemes.{keyword, IsNoun, a_variable, an_equation, unknown, IsNameSort, IsSort, AreLexemes}
use Rattle.info_read.specs.Grammar.{Stands}
use Rattle.info_read.specs.Faults.{HasFault, ends, unknown as unknown_name, wrong_kind, misplaced}
use Rattle.info_read.specs.Texts.{HasLexemes, IsInfoText, HasInfoFault}
use Rattle.info_read.specs.Machine.{closed, step, start_draft, run, fault_at, is_whole}
use Rattle.info_read.proofs.Runs.{onward, one}
use Rattle.info_read.proofs.Agree.{accepted, unfinished, stops_there}

-- ---- names
find_from : (n : List ℕ) (ns : List (List ℕ)) (name : List ℕ) (b : Bool) → bytes_eq (lower n) (lower name) ≡ b → ((k : ℕ) × Finds ns name (Some k)) ⊎ Finds ns name None → ((k : ℕ) × Finds (n ∷ ns) name (Some k)) ⊎ Finds (n ∷ ns) name None
find_from n ns name true e rest = inl (0, (omega arith, (bytes_eq-Decides (lower n) (lower name)).0 e))
find_from n ns name false e (inl h) = inl (suc h.0, (omega (arith, h.1.0), h.1.1))
find_from n ns name false e (inr h) = inr (All-cons (λ m. SameName m name → ⊥) n ns (λ same. let t = (bytes_eq-Decides (lower n) (lower name)).1 same in cc) h)

find : (names : List (List ℕ)) (name : List ℕ) → ((k : ℕ) × Finds names name (Some k)) ⊎ Finds names name None
find [] name = inr (All-nil (λ m. SameName m name → ⊥))
find (n ∷ ns) name = find_from n ns name (bytes_eq (lower n) (lower name)) refl (find ns name)

-- ---- lexemes
module _ (m : Model) where
  noun_by : (name : List ℕ) → ((k : ℕ) × Finds (variable_names m) name (Some k)) ⊎ Finds (variable_names m) name None → ((k : ℕ) × Finds (equation_names m) name (Some k)) ⊎ Finds (equation_names m) name None → (s : Sort) × IsNoun m name s
  noun_by name (inl v) e = (Variable (record { at = v.0 }), a_variable (record { at = v.0 }) v.1)
  noun_by name (inr n) (inl e) = (Equation (record { at = e.0 }), an_equation (record { at = e.0 }) n e.1)
  noun_by name (inr n) (inr e) = (Unknown, unknown n e)

  name_by : (name : List ℕ) (o : Option Sort) → (s : Sort) × IsNameSort m name o s
  name_by name (Some k) = (k, refl)
  name_by name None = noun_by name (find (variable_names m) name) (find (equation_names m) name)

  sort_of : (kind : TokenKind) (bytes : List ℕ) → (s : Sort) × IsSort m kind bytes s
  sort_of Name bytes = name_by bytes (keyword bytes)
  sort_of Numeral bytes = (Mark, refl)
  sort_of Text bytes = (Mark, refl)
  sort_of Relation bytes = (Mark, refl)
  sort_of Symbol bytes = (Mark, refl)

  lexemes_of : (text : List ℕ) (ks : List Token) → (ts : List Lexeme) × AreLexemes text m ks ts
  lexemes_of text [] = ([], tt)
  lexemes_of text (k ∷ ks) =
      let s = sort_of k.kind (slice_range text k.from k.to) in
      let rest = lexemes_of text ks in
      (record { sort = s.0; place = k.place } ∷ rest.0, (record { place = refl; sort = s.1 }, rest.1))

-- ---- annotations and faults
module _ (end : Place) where
  abbrev Answer : List Lexeme → Type 0
  Answer ts = ((a : Annot) × Stands ts a) ⊎ ((f : InfoFault) × HasFault ts end f)

  at_end : (ts : List Lexeme) (d : Draft) (b : Bool) → run start_draft ts ≡ Some d → is_whole d ≡ b → Answer ts
  at_end ts d true h w = inl (closed d, accepted ts d h w)
  at_end ts d false h w = inr (Syntax end, unfinished ts d h end w)

  answer_by : (done : List Lexeme) (t : Lexeme) (ts : List Lexeme) (d : Draft) (o : Option Draft) → run start_draft done ≡ Some d → step d t.sort ≡ o → ((done : List Lexeme) (e : Draft) → run start_draft done ≡ Some e → Answer (done ++ ts)) → Answer (done ++ t ∷ ts)
  answer_by done t ts d None h s rest = inr (fault_at d.stage t, stops_there end done t ts d h s)
  answer_by done t ts d (Some e) h s rest = subst Answer (append_assoc done (t ∷ []) ts) (rest (done ++ t ∷ []) e (onward start_draft d (Some e) done (t ∷ []) h (one d (Some e) t t.sort refl s)))

  answer : (ts done : List Lexeme) (d : Draft) → run start_draft done ≡ Some d → Answer (done ++ ts)
  answer [] done d h = subst Answer (sym (append-nil done)) (at_end done d (is_whole d) h refl)
  answer (t ∷ ts) done d h = answer_by done t ts d (step d t.sort) h refl (answer ts)

-- ---- texts
module _ (text : List ℕ) (m : Model) where
  info_fault : (ts : List Lexeme) (f : InfoFault) → HasLexemes text m ts → HasFault ts (past start text) f → HasInfoFault text m f
  info_fault ts f h (ends b n) = record { lexemes = ts; has = h; fault = ends b n }
  info_fault ts f h (unknown_name before t x q k) = record { lexemes = ts; has = h; fault = unknown_name before t x q k }
  info_fault ts f h (wrong_kind before t x q k) = record { lexemes = ts; has = h; fault = wrong_kind before t x q k }
  info_fault ts f h (misplaced before t x n) = record { lexemes = ts; has = h; fault = misplaced before t x n }

  by_lexemes : (ts : List Lexeme) → HasLexemes text m ts → Answer (past start text) ts → ((a : Annot) × IsInfoText text m a) ⊎ ((f : InfoFault) × HasInfoFault text m f)
  by_lexemes ts h (inl a) = inl (a.0, record { lexemes = ts; has = h; stands = a.1 })
  by_lexemes ts h (inr f) = inr (f.0, info_fault ts f.0 h f.1)

  by_tokens : ((ks : List Token) × IsTokenList text ks) ⊎ ((f : LexFault) × IsFirstFault text f) → ((a : Annot) × IsInfoText text m a) ⊎ ((f : InfoFault) × HasInfoFault text m f)
  by_tokens (inl k) = let l = lexemes_of m text k.0 in by_lexemes l.0 (record { tokens = k.0; cut = k.1; are = l.1 }) (answer (past start text) l.0 [] start_draft refl)
  by_tokens (inr f) = inr (Lex f.0, f.1)

  pub annotation_or_fault : ((a : Annot) × IsInfoText text m a) ⊎ ((f : InfoFault) × HasInfoFault text m f)
  annotation_or_fault = by_tokens (list_or_fault text)

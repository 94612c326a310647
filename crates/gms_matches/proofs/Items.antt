-- The items of statements and their matches.
use Rattle.std.proofs.Common.{◌≡◌, List, [], ◌∷◌, ◌++◌, map, ℕ, ◌+◌, ◌<◌, ◌≤◌, take, length, get_or, Option, Some, None, refl, sym, ap, ◌∙◌}
use Rattle.std.proofs.lemmas.List.{take_more, take_all, append-nil}
use Rattle.emp_ast.specs.declared.tree.VarId.{VarId}
use Rattle.emp_ast.specs.declared.tree.EquId.{EquId}
use Rattle.emp_ast.specs.declared.model.Sense.{Sense}
use Rattle.gms_grammar.specs.declared.lexeme.Lexeme.{Lexeme}
use Rattle.gms_grammar.specs.declared.item.Item.{Item}
use Rattle.gms_grammar.specs.declared.item.Item.TheVariants.{Variable, Equation, Relates, Ends, Lists, Applies, Groups, Raises, Signs, Joins, Match}
use Rattle.gms_grammar.specs.Grammar.{Written, numeral, name, call, listed, grouped, raised, signed, joined, Statement, empty, variables, equations, definition, setting, model, matched, solve}
use Rattle.gms_grammar.specs.Items.{written_items, goal_items, statement_items, items_of}
use Rattle.gms_read.specs.declared.draft.Draft.{Draft}
use Rattle.gms_matches.specs.Matches.{pair_in, matches_of, match_in, pair_before, shown_by, shown}
use Rattle.gms_matches.specs.Laws.{ItemsShowMatches}

append_three : {X : Type 0} (xs ys zs : List X) → (xs ++ ys) ++ zs ≡ xs ++ (ys ++ zs)
append_three [] ys zs = refl
append_three (x ∷ xs) ys zs = ap (λ ws. x ∷ ws) (append_three xs ys zs)

module _ (text : List ℕ) (d : Draft) where
  -- an expression shows none
  written_none : (w : Written) (rest : List Item) → shown text d (written_items w ++ rest) ≡ shown text d rest
  written_none (numeral t f) rest = refl
  written_none (name t) rest = refl
  written_none (call t a) rest = ap (shown text d) (append_three (written_items a) (Applies t ∷ []) rest) ∙ written_none a (Applies t ∷ rest)
  written_none (listed a b) rest = ap (shown text d) (append_three (written_items a) (Lists ∷ written_items b) rest) ∙ (written_none a (Lists ∷ written_items b ++ rest) ∙ written_none b rest)
  written_none (grouped e) rest = ap (shown text d) (append_three (written_items e) (Groups ∷ []) rest) ∙ written_none e (Groups ∷ rest)
  written_none (raised e p f) rest = ap (shown text d) (append_three (written_items e) (Raises p f ∷ []) rest) ∙ written_none e (Raises p f ∷ rest)
  written_none (signed s t e) rest = ap (shown text d) (append_three (written_items e) (Signs s t ∷ []) rest) ∙ written_none e (Signs s t ∷ rest)
  written_none (joined op t e f) rest =
      ap (shown text d) (append_three (written_items e ++ written_items f) (Joins op t ∷ []) rest ∙ append_three (written_items e) (written_items f) (Joins op t ∷ rest))
      ∙ (written_none e (written_items f ++ Joins op t ∷ rest) ∙ written_none f (Joins op t ∷ rest))

  names_none : {X : Type 0} (f : X → Item) → ((x : X) (more : List (EquId × VarId)) → shown_by text d (f x) more ≡ more) → (xs : List X) (rest : List Item) → shown text d (map f xs ++ rest) ≡ shown text d rest
  names_none f h [] rest = refl
  names_none f h (x ∷ xs) rest = h x (shown text d (map f xs ++ rest)) ∙ names_none f h xs rest

  pairs_shown : (qs : List (Lexeme × Lexeme)) (rest : List Item) → shown text d (map (λ q. Match q.0 q.1) qs ++ rest) ≡ map (pair_in text d) qs ++ shown text d rest
  pairs_shown [] rest = refl
  pairs_shown (q ∷ qs) rest = ap (λ xs. pair_in text d q ∷ xs) (pairs_shown qs rest)

  goal_none : (g : Option (Sense × Lexeme)) (rest : List Item) → shown text d (goal_items g ++ rest) ≡ shown text d rest
  goal_none None rest = refl
  goal_none (Some (s, t)) rest = refl

  statement_shown : (s : Statement) (rest : List Item) → shown text d (statement_items s ++ rest) ≡ map (pair_in text d) (matches_of s) ++ shown text d rest
  statement_shown empty rest = refl
  statement_shown (variables k w names) rest = names_none (λ t. Variable k t) (λ t more. refl) names rest
  statement_shown (equations names) rest = names_none (λ t. Equation t) (λ t more. refl) names rest
  statement_shown (definition t left r right) rest =
      ap (shown text d) (append_three (written_items left ++ Relates r ∷ written_items right) (Ends ∷ []) rest ∙ append_three (written_items left) (Relates r ∷ written_items right) (Ends ∷ rest))
      ∙ (written_none left (Relates r ∷ written_items right ++ Ends ∷ rest) ∙ written_none right (Ends ∷ rest))
  statement_shown (setting t a limit) rest = refl
  statement_shown (model t) rest = refl
  statement_shown (matched t qs) rest = pairs_shown qs rest
  statement_shown (solve t goal) rest = goal_none goal rest

pub items_show_matches : ItemsShowMatches
items_show_matches text d [] = refl
items_show_matches text d (s ∷ ss) = statement_shown text d s (items_of ss) ∙ ap (λ xs. map (pair_in text d) (matches_of s) ++ xs) (items_show_matches text d ss)

-- ---- the walk over items
shown_push : (text : List ℕ) (d : Draft) (is : List Item) (i : Item) → shown text d (is ++ i ∷ []) ≡ shown text d is ++ shown_by text d i []
shown_push text d [] i = refl
shown_push text d (j ∷ is) i = ap (pair_before text d (match_in j)) (shown_push text d is i) ∙ go (match_in j)
  where
    go : (o : Option (Lexeme × Lexeme)) → pair_before text d o (shown text d is ++ shown_by text d i []) ≡ pair_before text d o (shown text d is) ++ shown_by text d i []
    go None = refl
    go (Some q) = refl

pub shown_more : (text : List ℕ) (d : Draft) (is : List Item) (k : ℕ) (i : Item) → k < length is → i ≡ get_or is k i → shown text d (take (k + 1) is) ≡ shown text d (take k is) ++ shown_by text d i []
shown_more text d is k i h q = ap (shown text d) (take_more is k i h ∙ ap (λ x. take k is ++ x ∷ []) (sym q)) ∙ shown_push text d (take k is) i

pub shown_all : (text : List ℕ) (d : Draft) (is : List Item) (k : ℕ) → length is ≤ k → shown text d (take k is) ≡ shown text d is
shown_all text d is k h = ap (shown text d) (take_all k is h)

pub shown_none : (text : List ℕ) (d : Draft) (is : List Item) (k : ℕ) (i : Item) → k < length is → i ≡ get_or is k i → match_in i ≡ None → shown text d (take (k + 1) is) ≡ shown text d (take k is)
shown_none text d is k i h q n = shown_more text d is k i h q ∙ (ap (λ o. shown text d (take k is) ++ pair_before text d o []) n ∙ append-nil (shown text d (take k is)))

pub shown_some : (text : List ℕ) (d : Draft) (is : List Item) (k : ℕ) (i : Item) (m : Lexeme × Lexeme) → k < length is → i ≡ get_or is k i → match_in i ≡ Some m → shown text d (take (k + 1) is) ≡ shown text d (take k is) ++ pair_in text d m ∷ []
shown_some text d is k i m h q n = shown_more text d is k i h q ∙ ap (λ o. shown text d (take k is) ++ pair_before text d o []) n

pub ruleset showing = (shown_none, shown_some, shown_all)

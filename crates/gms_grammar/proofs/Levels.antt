-- The levels over the lexemes of a text.
use Rattle.std.proofs.Common.{◌≡◌, ℕ, ◌+◌, ◌<◌, ◌≤◌, cond, Some, None, List, ◌∷◌, length, drop, get_or, sym, ap, ◌∙◌}
use Rattle.std.specs.Prelude.{nat_lt}
use Rattle.std.proofs.lemmas.Bool.{lt-ltb, le-ltb}
use Rattle.std.proofs.lemmas.List.{drop_more, drop_all}
use Rattle.gms_grammar.specs.declared.lexeme.Lexeme.{Lexeme}
use Rattle.gms_grammar.specs.Nesting.{level_behind, too_deep_from}

-- one lexeme on
step : (level : ℕ) (ts : List Lexeme) (i : ℕ) (t : Lexeme) → i < length ts → t ≡ get_or ts i t
    → too_deep_from level (drop i ts) ≡ cond (nat_lt 64 (level_behind level t.sort)) (Some t.place) (too_deep_from (level_behind level t.sort) (drop (i + 1) ts))
step level ts i t h e = ap (too_deep_from level) (drop_more ts i t h ∙ ap (λ x. x ∷ drop (i + 1) ts) (sym e))

pub level_on : (level : ℕ) (ts : List Lexeme) (i : ℕ) (t : Lexeme) → i < length ts → t ≡ get_or ts i t → level_behind level t.sort ≤ 64
    → too_deep_from level (drop i ts) ≡ too_deep_from (level_behind level t.sort) (drop (i + 1) ts)
level_on level ts i t h e l = step level ts i t h e ∙ ap (λ b. cond b (Some t.place) (too_deep_from (level_behind level t.sort) (drop (i + 1) ts))) (le-ltb _ _ l)

pub level_past : (level : ℕ) (ts : List Lexeme) (i : ℕ) (t : Lexeme) → i < length ts → t ≡ get_or ts i t → 64 < level_behind level t.sort
    → too_deep_from level (drop i ts) ≡ Some t.place
level_past level ts i t h e l = step level ts i t h e ∙ ap (λ b. cond b (Some t.place) (too_deep_from (level_behind level t.sort) (drop (i + 1) ts))) (lt-ltb _ _ l)

pub level_end : (level : ℕ) (ts : List Lexeme) (i : ℕ) → length ts ≤ i → too_deep_from level (drop i ts) ≡ None
level_end level ts i h = ap (too_deep_from level) (drop_all i ts h)

pub ruleset levelling = (level_on, level_past, level_end)

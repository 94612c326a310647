-- The nesting of parentheses, counted over all tokens of a text: at most 64 levels.
use Rattle.std.specs.Prelude.{ℕ, ◌+◌, ◌-◌, cond, nat_lt, List, [], ◌∷◌, Option, Some, None}
use Rattle.emp_ast.specs.declared.tree.Place.{Place}
use Rattle.gms_grammar.specs.declared.lexeme.Sort.{Sort}
use Rattle.gms_grammar.specs.declared.lexeme.Sort.TheVariants.{Open, Close}
use Rattle.gms_grammar.specs.declared.lexeme.Lexeme.{Lexeme}

-- the levels open behind a lexeme: `(` opens one, and `)` closes one where one is open
abbrev pub level_behind : ℕ → Sort → ℕ
level_behind level Open = level + 1
level_behind level Close = level - 1
level_behind level s = level

-- the place of the first `(` that opens a 65th level
abbrev pub too_deep_from : ℕ → List Lexeme → Option Place
too_deep_from level [] = None
too_deep_from level (t ∷ ts) = cond (nat_lt 64 (level_behind level t.sort)) (Some t.place) (too_deep_from (level_behind level t.sort) ts)

abbrev pub too_deep : List Lexeme → Option Place
too_deep ts = too_deep_from 0 ts

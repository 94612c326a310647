-- Which arguments a function has, as the items behind its name tell.
use Rattle.std.specs.Prelude.{ℕ, ◌+◌, ◌-◌, Bool, true, false, cond, nat_eq, List, [], ◌∷◌}
use Rattle.gms_grammar.specs.declared.lexeme.Word.TheVariants.{Square, Power as PowerWord}
use Rattle.gms_grammar.specs.declared.lexeme.Sort.{Sort}
use Rattle.gms_grammar.specs.declared.lexeme.Sort.TheVariants.{Name as IsName}
use Rattle.gms_grammar.specs.declared.item.Item.{Item}
use Rattle.gms_grammar.specs.declared.item.Item.TheVariants.{Number, Enters, Lists, Applies}
use Rattle.gms_read.specs.declared.shape.Shape.{Shape}
use Rattle.gms_read.specs.declared.shape.Shape.TheVariants.{One, Awaiting, Powered, Other}
use Rattle.gms_read.specs.Rules.{is_exponent}

-- the item ends the arguments, where `depth` inner functions are open
abbrev pub closes : ℕ → Item → Bool
closes depth (Applies t) = nat_eq depth 0
closes depth i = false

abbrev pub depth_behind : ℕ → Item → ℕ
depth_behind depth (Enters t) = depth + 1
depth_behind depth (Applies t) = depth - 1
depth_behind depth i = depth

-- behind an item that stands in no inner function
abbrev pub shape_behind : Shape → Item → Shape
shape_behind One Lists = Awaiting
shape_behind One i = One
shape_behind Awaiting (Number t f) = cond (is_exponent f) Powered Other
shape_behind Awaiting i = Other
shape_behind Powered i = Other
shape_behind Other i = Other

-- the shape of the arguments up to the item that ends them
abbrev pub shape_from : ℕ → Shape → List Item → Shape
shape_from depth shape [] = Other
shape_from depth shape (i ∷ is) = cond (closes depth i) shape (shape_from (depth_behind depth i) (cond (nat_eq depth 0) (shape_behind shape i) shape) is)

-- a square of one argument, or a power
abbrev pub accepts : Sort → Shape → Bool
accepts (IsName Square) One = true
accepts (IsName PowerWord) Powered = true
accepts s shape = false

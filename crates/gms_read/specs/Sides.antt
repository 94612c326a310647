-- What the items of an expression add to a side of an equation.
use Rattle.std.specs.Prelude.{ℕ, cond, List, [], ◌∷◌, ◌++◌, length, Option, Some, None, Result, Ok, Err}
use Rattle.emp_num.specs.declared.frac.Frac.{Frac}
use Rattle.emp_ast.specs.declared.tree.Place.{Place}
use Rattle.emp_ast.specs.declared.tree.Operator.{Operator}
use Rattle.emp_ast.specs.declared.tree.Node.{Node}
use Rattle.emp_ast.specs.declared.tree.Node.TheVariants.{Number as NumberNode, Var, Neg, Power}
use Rattle.emp_ast.specs.Nodes.{join_node}
use Rattle.gms_grammar.specs.declared.lexeme.Lexeme.{Lexeme}
use Rattle.gms_grammar.specs.declared.lexeme.Sign.{Sign}
use Rattle.gms_grammar.specs.declared.lexeme.Sign.TheVariants.{Plus, Minus}
use Rattle.gms_grammar.specs.declared.item.Item.{Item}
use Rattle.gms_grammar.specs.declared.fault.ModelFault.{ModelFault}
use Rattle.gms_grammar.specs.declared.fault.ModelFault.TheVariants.{Undeclared, Function}
use Rattle.gms_read.specs.declared.progress.Second.{Second}
use Rattle.gms_read.specs.declared.progress.Second.TheVariants.{Absent, Awaited, Given}
use Rattle.gms_read.specs.declared.progress.Side.{Side}
use Rattle.gms_read.specs.declared.shape.Shape.TheVariants.{One}
use Rattle.gms_read.specs.Rules.{exponent, or_zero}
use Rattle.gms_read.specs.Shapes.{shape_from, accepts}

abbrev pub latest : List ℕ → ℕ
latest [] = 0
latest (r ∷ rs) = r

abbrev pub others : List ℕ → List ℕ
others [] = []
others (r ∷ rs) = rs

abbrev pub no_side : Side
no_side = record { nodes = []; places = []; roots = []; second = Absent }

-- one node more, which is the root of an operand; `roots` are the other ones
abbrev pub grown : Side → List ℕ → Node → Place → Side
grown s roots node place = record {
  nodes = s.nodes ++ node ∷ [];
  places = s.places ++ place ∷ [];
  roots = length s.nodes ∷ roots;
  second = Absent;
}

abbrev pub with_second : Side → Second → Side
with_second s second = record { nodes = s.nodes; places = s.places; roots = s.roots; second = second }

-- a numeral is an operand, or the second argument of a power
abbrev pub number_by : Side → Place → Frac → Second → Side
number_by s place f Absent = grown s s.roots (NumberNode f) place
number_by s place f Awaited = with_second s (Given (or_zero (exponent f)))
number_by s place f (Given n) = grown s s.roots (NumberNode f) place

abbrev pub name_by : Side → Place → Option ℕ → Result Side ModelFault
name_by s place (Some k) = Ok (grown s s.roots (Var (record { at = k })) place)
name_by s place None = Err (Undeclared place)

abbrev pub exponent_of : Second → ℕ
exponent_of Absent = 2
exponent_of Awaited = 2
exponent_of (Given n) = n

abbrev pub raised_to : Side → Place → ℕ → Side
raised_to s place n = grown s (others s.roots) (Power (latest s.roots) n) place

abbrev pub raise_by : Side → Place → Option ℕ → Result Side ModelFault
raise_by s place (Some n) = Ok (raised_to s place n)
raise_by s place None = Err (Function place)

abbrev pub signed_by : Side → Place → Sign → Side
signed_by s place Plus = s
signed_by s place Minus = grown s (others s.roots) (Neg (latest s.roots)) place

abbrev pub joined_by : Side → Place → Operator → Side
joined_by s place op = grown s (others (others s.roots)) (join_node op (latest (others s.roots)) (latest s.roots)) place

-- the arguments that the items behind a function's name begin with
abbrev pub entered : Side → Lexeme → List Item → Result Side ModelFault
entered s t rest = cond (accepts t.sort (shape_from 0 One rest)) (Ok s) (Err (Function t.place))

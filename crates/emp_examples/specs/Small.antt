-- Short forms for small models.
use Rattle.std.specs.Prelude.{ℕ, ℤ, pos, true, false, List, [], map, Some, None}
use Rattle.std.proofs.lemmas.List.{length-map}
use Rattle.emp_num.specs.Point.{Point}
use Rattle.emp_num.specs.Whole.{whole, one_above_zero}
use Rattle.emp_ast.specs.declared.tree.VarId.{VarId}
use Rattle.emp_ast.specs.declared.tree.EquId.{EquId}
use Rattle.emp_ast.specs.declared.tree.Operator.TheVariants.{Plus, Minus, Times, Over}
use Rattle.emp_ast.specs.declared.tree.Node.{Node}
use Rattle.emp_ast.specs.declared.tree.Tree.{Tree}
use Rattle.emp_ast.specs.declared.model.Relation.{Relation}
use Rattle.emp_ast.specs.declared.model.Equation.{Equation}
use Rattle.emp_ast.specs.declared.model.End.TheVariants.{Open, At}
use Rattle.emp_ast.specs.declared.model.Sense.{Sense}
use Rattle.emp_ast.specs.declared.model.Variable.{Variable}
use Rattle.emp_ast.specs.declared.model.Model.{Model}
use Rattle.emp_ast.specs.declared.annot.Block.{Block}
use Rattle.emp_ast.specs.declared.annot.Annot.{Annot}
use Rattle.emp_ast.specs.Expression.{Expression, number, joined}
use Rattle.emp_ast.specs.Nodes.{nodes_from}
use Rattle.emp_ast.proofs.Nodes.{postorder_of}

-- ---- expressions
abbrev pub sum : Expression → Expression → Expression
sum e f = joined Plus e f

abbrev pub difference : Expression → Expression → Expression
difference e f = joined Minus e f

abbrev pub product : Expression → Expression → Expression
product e f = joined Times e f

abbrev pub quotient : Expression → Expression → Expression
quotient e f = joined Over e f

abbrev pub numeral : ℕ → Expression
numeral n = number (whole n)

-- 1/0, which has no value
abbrev pub no_number : Expression
no_number = quotient (numeral 1) (numeral 0)

-- ---- equations and variables
abbrev pub tree : Expression → Tree
tree e = record { nodes = nodes_from 0 e; places = map (λ (n : Node). record { line = 1; column = 1 }) (nodes_from 0 e); whole = postorder_of e; placed = length-map (nodes_from 0 e) (λ (n : Node). record { line = 1; column = 1 }) }

abbrev pub equation : Expression → Relation → Expression → Equation
equation left relation right = record { name = []; left = tree left; right = tree right; relation = relation }

abbrev pub free : Variable
free = record { name = []; low = Open; high = Open }

abbrev pub from : ℕ → Variable
from n = record { name = []; low = At (whole n); high = Open }

abbrev pub up_to : ℕ → Variable
up_to n = record { name = []; low = Open; high = At (whole n) }

abbrev pub var : ℕ → VarId
var k = record { at = k }

abbrev pub equ : ℕ → EquId
equ k = record { at = k }

-- ---- models, annotations and points
abbrev pub model : List Variable → List Equation → Model
model variables equations = record { name = []; variables = variables; equations = equations; goal = None }

abbrev pub equilibrium : List Block → Annot
equilibrium blocks = record { bilevel = false; leader = []; blocks = blocks; duals = []; visols = []; implicits = [] }

abbrev pub bilevel : List VarId → List Block → Annot
bilevel vars blocks = record { bilevel = true; leader = vars; blocks = blocks; duals = []; visols = []; implicits = [] }

abbrev pub with_goal : Sense → ℕ → Model → Model
with_goal sense k m = record m { goal = Some (sense, record { at = k }) }

abbrev pub with_duals : List (VarId × EquId) → Annot → Annot
with_duals duals a = record a { duals = duals }

abbrev pub with_visols : List EquId → Annot → Annot
with_visols visols a = record a { visols = visols }

abbrev pub with_implicits : List (VarId × EquId) → Annot → Annot
with_implicits implicits a = record a { implicits = implicits }

-- the point with these whole numbers
abbrev pub whole_point : List ℤ → Point
whole_point nums = record { den = pos 1; nums = nums; positive = one_above_zero }

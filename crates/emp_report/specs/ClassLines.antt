-- The fault lines of classes of files that are refused, of wide numbers and of the search.
use Rattle.std.specs.Prelude.{ℕ, List, ◌++◌, take, codes, decimal}
use Rattle.emp_ast.specs.declared.tree.Place.{Place}
use Rattle.emp_ast.specs.declared.tree.VarId.{VarId}
use Rattle.emp_ast.specs.declared.tree.EquId.{EquId}
use Rattle.emp_ast.specs.declared.model.Model.{Model}
use Rattle.emp_command.specs.Lines.{no_memory_line}
use Rattle.emp_poly.specs.declared.tree.PolyFault.{PolyFault}
use Rattle.emp_poly.specs.declared.tree.PolyFault.TheVariants as PolyWords
use Rattle.emp_report.specs.TextLines.{variable_name, equation_name, place_text}

abbrev pub tree_line : List ℕ → Place → List ℕ
tree_line start p = start ++ place_text p ++ codes "\n"

abbrev pub poly_line : PolyFault → List ℕ
poly_line (PolyWords.Degree p) = tree_line (codes "error 17: degree ") p
poly_line (PolyWords.DivideByVariable p) = tree_line (codes "error 17: divide by variable ") p
poly_line (PolyWords.DivideByZero p) = tree_line (codes "error 17: divide by zero ") p
poly_line (PolyWords.Wide p) = tree_line (codes "error 19: wide coefficient ") p
poly_line PolyWords.NoMemory = no_memory_line

abbrev pub poly_status : PolyFault → ℕ
poly_status (PolyWords.Degree p) = 17
poly_status (PolyWords.DivideByVariable p) = 17
poly_status (PolyWords.DivideByZero p) = 17
poly_status (PolyWords.Wide p) = 19
poly_status PolyWords.NoMemory = 21

abbrev pub quadratic_line : Model → EquId → VarId → VarId → List ℕ
quadratic_line m e u v = codes "error 17: quadratic constraint " ++ take 63 (equation_name m e) ++ codes " " ++ take 63 (variable_name m u) ++ codes " " ++ take 63 (variable_name m v) ++ codes "\n"

abbrev pub leader_line : Model → VarId → VarId → List ℕ
leader_line m u v = codes "error 17: leader not linear " ++ take 63 (variable_name m u) ++ codes " " ++ take 63 (variable_name m v) ++ codes "\n"

-- agent and own variable are counted from 1
abbrev pub convex_line : ℕ → ℕ → List ℕ
convex_line agent k = codes "error 18: agent " ++ decimal agent ++ codes " is not convex at own variable " ++ decimal k ++ codes "\n"

abbrev pub curvature_line : ℕ → ℕ → List ℕ
curvature_line agent k = codes "error 19: wide curvature agent " ++ decimal agent ++ codes " variable " ++ decimal k ++ codes "\n"

abbrev pub value_line : Model → VarId → List ℕ
value_line m v = codes "error 19: wide value " ++ take 63 (variable_name m v) ++ codes "\n"

abbrev pub row_line : ℕ → List ℕ
row_line k = codes "error 19: wide row " ++ decimal k ++ codes "\n"

abbrev pub pivot_line : ℕ → ℕ → List ℕ
pivot_line node pivot = codes "error 19: wide at node " ++ decimal node ++ codes " pivot " ++ decimal pivot ++ codes "\n"

abbrev pub spent_line : ℕ → List ℕ
spent_line n = codes "error 20: work " ++ decimal n ++ codes " spent\n"

abbrev pub rows_line : List ℕ
rows_line = codes "error 24: rows too large\n"

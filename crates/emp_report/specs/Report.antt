-- The bytes of reports. Each line ends with LF.
use Rattle.std.specs.Prelude.{ℕ, ℤ, pos, Bool, true, false, cond, List, [], ◌∷◌, ◌++◌, codes, decimal}
use Rattle.std.specs.Fmt.{signed_decimal}
use Rattle.std.specs.Ordering.{int_eq}
use Rattle.emp_numeral.specs.FracText.{fraction_text}
use Rattle.emp_num.specs.declared.frac.Frac.{Frac}
use Rattle.emp_cert.specs.declared.tree.Node.{Node}
use Rattle.emp_cert.specs.declared.tree.Node.TheVariants.{Farkas}

-- a line for each variable, by its name and its value
abbrev pub each_line : (List ℕ → Frac → List ℕ) → List (List ℕ) → List Frac → List ℕ
each_line line [] fs = []
each_line line (n ∷ ns) [] = []
each_line line (n ∷ ns) (f ∷ fs) = line n f ++ each_line line ns fs

-- `NAME = F`
abbrev pub value_line : List ℕ → Frac → List ℕ
value_line n f = n ++ codes " = " ++ fraction_text f ++ codes "\n"

abbrev pub point_lines : List (List ℕ) → List Frac → List ℕ
point_lines names fs = each_line value_line names fs

abbrev pub work_text : ℕ → List ℕ
work_text work = codes "work " ++ decimal work ++ codes "\n"

-- the report of an equilibrium
abbrev pub equilibrium_report : ℕ → List (List ℕ) → List Frac → List ℕ
equilibrium_report work names fs = codes "equilibrium\n" ++ work_text work ++ point_lines names fs

-- the report of a best point
abbrev pub best_report : ℕ → List (List ℕ) → List Frac → List ℕ
best_report work names fs = codes "best\n" ++ work_text work ++ point_lines names fs

-- `step NAME = F`, where the step is not 0
abbrev pub step_line : List ℕ → Frac → List ℕ
step_line n f = cond (int_eq f.num (pos 0)) [] (codes "step " ++ value_line n f)

abbrev pub step_lines : List (List ℕ) → List Frac → List ℕ
step_lines names steps = each_line step_line names steps

-- the report of a ray: the point at which it starts, and its step
abbrev pub unbounded_report : ℕ → List (List ℕ) → List Frac → List Frac → List ℕ
unbounded_report work names fs steps = codes "unbounded\n" ++ work_text work ++ point_lines names fs ++ step_lines names steps

-- each factor after a space
abbrev pub factors_text : List ℤ → List ℕ
factors_text [] = []
factors_text (z ∷ zs) = codes " " ++ signed_decimal z ++ factors_text zs

-- where the root alone decides, the factors of its row
abbrev pub row_text : List Node → List ℕ
row_text (Farkas factors ∷ []) = codes "row" ++ factors_text factors ++ codes "\n"
row_text nodes = []

abbrev pub missing_text : Bool → List ℕ
missing_text false = codes "no equilibrium\n"
missing_text true = codes "no bilevel point\n"

-- the report that there is none, with the count of nodes: of an equilibrium file, or of a bilevel one
abbrev pub missing_report : Bool → ℕ → ℕ → List Node → List ℕ
missing_report bilevel work nodes tree = missing_text bilevel ++ work_text work ++ codes "nodes " ++ decimal nodes ++ codes "\n" ++ row_text tree

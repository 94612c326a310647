-- At one root no two of the faults come, and none where the root fits.
use Rattle.emp_ast.specs.declared.tree.Operator.{Operator}
use Rattle.emp_ast.specs.declared.tree.Operator.TheVariants.{Plus, Minus, Times, Over}
use Rattle.emp_ast.specs.Expression.{Expression, number, variable, negated, joined, power}
use Rattle.emp_form.specs.Form.{Form}
use Rattle.emp_form.specs.Expansion.{form, JoinFits, RootFits, JoinHasDegree, HasDegree, JoinDividesByVariable, DividesByVariable, JoinDividesByZero, DividesByZero}
use Rattle.emp_form.specs.Laws.{OneFaultAtEachRoot}

join_degree : (op : Operator) (f g : Form) → JoinHasDegree op f g → JoinFits op f g → ⊥
join_degree Plus f g d h = d
join_degree Minus f g d h = d
join_degree Times f g d h = d h
join_degree Over f g d h = d

degree : (e : Expression) → HasDegree e → RootFits e → ⊥
degree (number f) d h = d
degree (variable k) d h = d
degree (negated e) d h = d
degree (joined op e f) d h = join_degree op (form e) (form f) d h
degree (power e n) d h = d h

join_by_variable : (op : Operator) (f g : Form) → JoinDividesByVariable op g → JoinFits op f g → ⊥
join_by_variable Plus f g d h = d
join_by_variable Minus f g d h = d
join_by_variable Times f g d h = d
join_by_variable Over f g d h = d h.0

by_variable : (e : Expression) → DividesByVariable e → RootFits e → ⊥
by_variable (number f) d h = d
by_variable (variable k) d h = d
by_variable (negated e) d h = d
by_variable (joined op e f) d h = join_by_variable op (form e) (form f) d h
by_variable (power e n) d h = d

join_by_zero : (op : Operator) (f g : Form) → JoinDividesByZero op g → JoinFits op f g → ⊥
join_by_zero Plus f g d h = d
join_by_zero Minus f g d h = d
join_by_zero Times f g d h = d
join_by_zero Over f g d h = h.1 d.1

by_zero : (e : Expression) → DividesByZero e → RootFits e → ⊥
by_zero (number f) d h = d
by_zero (variable k) d h = d
by_zero (negated e) d h = d
by_zero (joined op e f) d h = join_by_zero op (form e) (form f) d h
by_zero (power e n) d h = d

join_degree_apart : (op : Operator) (f g : Form) → JoinHasDegree op f g → JoinDividesByVariable op g → ⊥
join_degree_apart Plus f g d h = d
join_degree_apart Minus f g d h = d
join_degree_apart Times f g d h = h
join_degree_apart Over f g d h = d

degree_variable : (e : Expression) → HasDegree e → DividesByVariable e → ⊥
degree_variable (number f) d h = d
degree_variable (variable k) d h = d
degree_variable (negated e) d h = d
degree_variable (joined op e f) d h = join_degree_apart op (form e) (form f) d h
degree_variable (power e n) d h = h

join_degree_zero : (op : Operator) (f g : Form) → JoinHasDegree op f g → JoinDividesByZero op g → ⊥
join_degree_zero Plus f g d h = d
join_degree_zero Minus f g d h = d
join_degree_zero Times f g d h = h
join_degree_zero Over f g d h = d

degree_zero : (e : Expression) → HasDegree e → DividesByZero e → ⊥
degree_zero (number f) d h = d
degree_zero (variable k) d h = d
degree_zero (negated e) d h = d
degree_zero (joined op e f) d h = join_degree_zero op (form e) (form f) d h
degree_zero (power e n) d h = h

join_zero_variable : (op : Operator) (g : Form) → JoinDividesByVariable op g → JoinDividesByZero op g → ⊥
join_zero_variable Plus g d h = d
join_zero_variable Minus g d h = d
join_zero_variable Times g d h = d
join_zero_variable Over g d h = d h.0

variable_zero : (e : Expression) → DividesByVariable e → DividesByZero e → ⊥
variable_zero (number f) d h = d
variable_zero (variable k) d h = d
variable_zero (negated e) d h = d
variable_zero (joined op e f) d h = join_zero_variable op (form f) d h
variable_zero (power e n) d h = d

pub one_fault : OneFaultAtEachRoot
one_fault e = record {
  degree = degree e;
  by_variable = by_variable e;
  by_zero = by_zero e;
  degree_or_variable = degree_variable e;
  degree_or_zero = degree_zero e;
  variable_or_zero = variable_zero e;
}

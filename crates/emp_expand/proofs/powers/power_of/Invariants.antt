use Rattle.std.proofs.Common.{◌≤◌, Ok}
use Rattle.emp_form.specs.Form.{Form}
use Rattle.emp_expand.specs.Powers.{IsNumber, PowerOf}
use Rattle.emp_expand.proofs.powers.power_of.Given as goal

abbrev pub invariant-loop-i : goal.invariant-loop-i
invariant-loop-i l = record {
  one : 1 ≤ l.i;
  power : (f : Form) → IsNumber l.base f → PowerOf f l.i (Ok l.value);
}

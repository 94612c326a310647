use Rattle.emp_form.proofs.FormLaws as Law
use Rattle.emp_form.proofs.laws.values_are_forms.Goals as goal

pub returns : goal.returns
returns c = Law.values_are_forms

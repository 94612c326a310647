use Rattle.emp_numeral.proofs.NumeralTexts.{is_text, has_form}
use Rattle.emp_numeral.proofs.laws.numerals_are_texts.Goals as goal

pub returns : goal.returns
returns c = record { is_text = is_text; has_form = has_form }

use Rattle.std.proofs.Common.{refl, subst}
use Rattle.emp_numeral.specs.Numeral.{NumeralGives}
use Rattle.gms_grammar.proofs.lexemes.numeral_sort.Goals as goal

pub returns : goal.returns
returns c = (c.unwrap.result, refl, subst (λ r. NumeralGives c.args.bytes.now r) c.unwrap.ensures c.read_numeral.ensures)

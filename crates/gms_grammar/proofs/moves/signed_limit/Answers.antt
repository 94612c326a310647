use Rattle.std.proofs.Common.{ap}
use Rattle.emp_num.proofs.Same.{frac_eq}
use Rattle.emp_num.specs.Opposite.{opposite}
use Rattle.gms_grammar.specs.declared.limit.Limit.TheVariants.{At}
use Rattle.gms_grammar.proofs.moves.signed_limit.Goals as goal

pub returns-in-Minus-At : goal.returns-in-Minus-At
returns-in-Minus-At c = rw (c.in-Minus-At.is-0, c.in-Minus-At.is-1) (ap At (frac_eq c.neg.result (opposite c.in-Minus-At.f) c.neg.ensures.num c.neg.ensures.den))

use Rattle.emp_expand.proofs.Powering.{number_large, number_ok}
use Rattle.emp_expand.proofs.powers.constant.Goals as goal

pub returns-in_default : goal.returns-in_default
returns-in_default c = λ f h. number_large c.args.value f h c.in_default.ensures

pub returns : goal.returns
returns c = λ f h. number_ok c.new-all.result c.set.new.self c.args.value c.in-Ok.found f h c.in-Ok.ensures c.new-all.ensures c.in-Ok-set.ensures.here c.in-Ok-set.ensures.others

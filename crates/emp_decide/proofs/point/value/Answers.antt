use Rattle.emp_dict.specs.declared.label.Label.TheVariants.{Base}
use Rattle.emp_dict.specs.Dicts.{dictionary_of}
use Rattle.emp_decide.proofs.Reading.{found_below}
use Rattle.emp_decide.proofs.point.value.Goals as goal

pub constant-requires : goal.constant-requires
constant-requires c = found_below (dictionary_of c.args.dict.now) (Base c.args.base) c.row_of.result c.in-Some.row c.row_of.ensures c.in-Some.is

pub denom-requires : goal.denom-requires
denom-requires c = found_below (dictionary_of c.args.dict.now) (Base c.args.base) c.row_of.result c.in-Some.row c.row_of.ensures c.in-Some.is

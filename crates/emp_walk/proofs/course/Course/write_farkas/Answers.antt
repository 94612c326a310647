use Rattle.std.proofs.Common.{ap, ◌∙◌}
use Rattle.emp_dict.specs.declared.dict.Dict.{Dict}
use Rattle.emp_decide.specs.Reads.{farkas_factors}
use Rattle.emp_dict.specs.Dicts.{dictionary_of}
use Rattle.emp_walk.proofs.Leaves.{farkas_leaf}
use Rattle.emp_walk.proofs.course.Course.write_farkas.Goals as goal

pub returns-clause-fits : goal.returns-clause-fits
returns-clause-fits c = farkas_leaf (dictionary_of c.args.self.now.dict) c.args.row c.in_ok-factors.factors (c.in_ok-factors.ensures.value ∙ ap (λ (x : Dict). farkas_factors (dictionary_of x) c.args.row) c.dictionary.ensures) c.in_ok-factors.ensures.narrow

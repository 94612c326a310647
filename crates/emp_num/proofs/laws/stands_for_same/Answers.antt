use Rattle.emp_num.proofs.Commons.{common_point, stands_for_common}
use Rattle.emp_num.proofs.SamePoints.{stands_respects, stands_one_point, stands_one_list}
use Rattle.emp_num.proofs.laws.stands_for_same.Goals as goal

pub returns : goal.returns
returns c = record {
  some = λ fs. (common_point fs, stands_for_common fs);
  respects = stands_respects;
  one_point = stands_one_point;
  one_list = stands_one_list;
}

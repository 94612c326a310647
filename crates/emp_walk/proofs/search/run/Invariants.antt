use Rattle.std.proofs.Common.{◌≡◌}
use Rattle.emp_face.specs.Budgets.{units_left}
use Rattle.emp_walk.specs.Courses.{CourseFits, pending}
use Rattle.emp_walk.proofs.search.run.Given as goal

abbrev pub invariant-loop-end : goal.invariant-loop-end
invariant-loop-end g l = record {
  same : pending l.fn.system l.fn.course ≡ pending l.system l.course;
  fits : CourseFits l.system l.course;
  limit : l.course.budget.limit ≡ l.fn.course.budget.limit;
}

abbrev pub decreases-loop-end : goal.decreases-loop-end
decreases-loop-end g l = units_left l.course.budget

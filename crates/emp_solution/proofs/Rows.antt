-- The row system of a file is that of its game.
use Rattle.emp_whole.proofs.Multiples.{each_problem_is_whole}
use Rattle.emp_whole.proofs.Games.{problems_have_games}
use Rattle.emp_share.proofs.Passing.{passing_is_convex}
use Rattle.emp_problem.specs.Problem.{game}
use Rattle.emp_meaning.proofs.Assembly.{games_are_well_made}
use Rattle.emp_solution.specs.Laws.{StatedHasRows}

pub stated_has_rows : StatedHasRows
stated_has_rows m a s h =
    let n = each_problem_is_whole s.problem in
    let is = problems_have_games n.0 m a s.problem h.problem n.1 in
    let made = games_are_well_made n.0 m a (game n.0 s.problem) h.class is in
    record {
      class = h.class;
      times = n.0;
      game = game n.0 s.problem;
      is = is;
      convex = passing_is_convex n.0 s.problem n.1 made.game h.convex;
      system = h.rows.over n.0 n.1;
    }

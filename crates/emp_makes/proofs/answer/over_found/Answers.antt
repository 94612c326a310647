use Rattle.emp_command.specs.Words.{default_work}
use Rattle.emp_duopoly.proofs.Equilibria.{markets_have_equilibria}
use Rattle.emp_makes.proofs.Deciding.{is_not_missing, is_not_best, is_not_unbounded}
use Rattle.emp_makes.proofs.answer.over_found.Goals as goal

pub unreachable-requires : goal.unreachable-requires
unreachable-requires c =
    is_not_missing markets_have_equilibria c.args.request.now.seed c.args.request.now.firms c.args.model.now c.args.annot.now c.requires.market c.args.ready.now.stated c.requires.ready.stated default_work c.args.found.now c.requires.found c.in-Missing.field-0 c.in-Missing.is

pub unreachable-requires-in-Best : goal.unreachable-requires-in-Best
unreachable-requires-in-Best c =
    is_not_best markets_have_equilibria c.args.request.now.seed c.args.request.now.firms c.args.model.now c.args.annot.now c.requires.market c.args.ready.now.stated c.requires.ready.stated default_work c.args.found.now c.requires.found c.in-Best.field-0 c.in-Best.field-1 c.in-Best.is

pub unreachable-requires-in-Unbounded : goal.unreachable-requires-in-Unbounded
unreachable-requires-in-Unbounded c =
    is_not_unbounded markets_have_equilibria c.args.request.now.seed c.args.request.now.firms c.args.model.now c.args.annot.now c.requires.market c.args.ready.now.stated c.requires.ready.stated default_work c.args.found.now c.requires.found c.in-Unbounded.field-0 c.in-Unbounded.field-1 c.in-Unbounded.is

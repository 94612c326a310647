use Rattle.std.proofs.Common.{subst, ap}
use Rattle.emp_command.specs.Requests.{asked_of, word_of}
use Rattle.emp_answers.specs.Steps.{RestFits}
use Rattle.emp_answers.proofs.Answering.{print_does, solve_does, check_does, migrate_does, rest_is}
use Rattle.emp_answers.proofs.answer.over_model.Goals as goal

pub returns-in-Print : goal.returns-in-Print
returns-in-Print c = print_does c.print.result c.args.model.now c.args.annot.now (asked_of c.args.request.now) c.args.rest.now c.in-Print.is (subst (λ v. RestFits v c.args.rest.now) c.in-Print.is c.requires.rest) c.print.ensures

pub returns-in-Solve : goal.returns-in-Solve
returns-in-Solve c = solve_does c.solve.result c.args.model.now c.args.annot.now (asked_of c.args.request.now) c.args.rest.now c.in-Solve.is (subst (λ v. RestFits v c.args.rest.now) c.in-Solve.is c.requires.rest) c.solve.ensures

pub returns-in-Check : goal.returns-in-Check
returns-in-Check c =
    let h = subst (λ v. RestFits v c.args.rest.now) c.in-Check.is c.requires.rest in
    check_does c.check.result c.args.model.now c.args.annot.now (asked_of c.args.request.now) c.args.rest.now c.as_slice.result.now c.in-Check.is (rest_is c.args.rest.now h.0 c.index-rest-0.result c.as_slice.result.now h.1 c.index-rest-0.is c.as_slice.ensures) c.check.ensures

pub returns-in-Some : goal.returns-in-Some
returns-in-Some c =
    let h = subst (λ v. RestFits v c.args.rest.now) c.in-Migrate.is c.requires.rest in
    migrate_does c.migrate.result c.args.model.now c.args.annot.now (asked_of c.args.request.now) c.args.rest.now c.as_slice-in-Some.result.now c.in-Some.name.now c.in-Migrate.is (ap word_of c.in-Some.is)
    (rest_is c.args.rest.now h.0 c.index-rest-0-in-Some.result c.as_slice-in-Some.result.now h.1 c.index-rest-0-in-Some.is c.as_slice-in-Some.ensures) c.migrate.ensures

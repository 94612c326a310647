use Rattle.std.proofs.Common.{arith, subst, sym}
use Rattle.emp_dict.specs.Dicts.{dictionary_of}
use Rattle.emp_walk.specs.Fits.{OutcomeFits}
use Rattle.emp_walk.specs.Decisions.{NextFits}
use Rattle.emp_walk.specs.declared.next.Next.TheVariants.{Better, Point, Ray}
use Rattle.emp_walk.specs.declared.next.Test.TheVariants.{Above, Broken}
use Rattle.emp_walk.proofs.Deciding.{split_next_fits}
use Rattle.emp_walk.proofs.next.decide.Goals as goal

pub returns-in-Held-clause-fits : goal.returns-in-Held-clause-fits
returns-in-Held-clause-fits c =
    let s = c.args.system.now in
    let d = dictionary_of c.args.dict.now in
    subst (NextFits s d) (sym c.split_or.ensures) (split_next_fits s d Above Point c.first_pair.result c.requires.done.at tt tt c.first_pair.ensures)

pub returns-else-is_bounded-clause-fits : goal.returns-else-is_bounded-clause-fits
returns-else-is_bounded-clause-fits c =
    let s = c.args.system.now in
    let d = dictionary_of c.args.dict.now in
    let o = subst (OutcomeFits d) c.in-Best.is c.requires.done.outcome in
    let same = o.0 in
    let there = o.1 in
    subst (NextFits s d) (sym c.split_or-else-is_bounded.ensures) (split_next_fits s d Above (Better c.in-Best.row) c.first_pair-else-is_bounded.result c.requires.done.at tt (omega arith, o.1) c.first_pair-else-is_bounded.ensures)

pub returns-in-Ray-clause-fits : goal.returns-in-Ray-clause-fits
returns-in-Ray-clause-fits c =
    let s = c.args.system.now in
    let d = dictionary_of c.args.dict.now in
    let o = subst (OutcomeFits d) c.in-Ray.is c.requires.done.outcome in
    subst (NextFits s d) (sym c.split_or-in-Ray.ensures) (split_next_fits s d (Broken c.in-Ray.column) (Ray c.in-Ray.column c.in-Ray.up) c.first_pair-in-Ray.result c.requires.done.at o o.0 c.first_pair-in-Ray.ensures)

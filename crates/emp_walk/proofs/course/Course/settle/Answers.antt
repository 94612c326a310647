use Rattle.std.proofs.Common.{ap, refl, subst}
use Rattle.std.specs.Option.{option_map}
use Rattle.emp_cert.specs.declared.tree.Node.TheVariants.{Farkas}
use Rattle.emp_dict.specs.Dicts.{dictionary_of}
use Rattle.emp_decide.specs.Reads.{farkas_factors}
use Rattle.emp_search.specs.Search.{bound_of, point, ray}
use Rattle.emp_walk.specs.declared.course.End.TheVariants.{Point, Ray}
use Rattle.emp_walk.specs.Decisions.{NextFits, decision_of}
use Rattle.emp_walk.proofs.Settling.{leaf_goes, better_goes, split_goes, found_goes}
use Rattle.emp_walk.proofs.course.Course.settle.Goals as goal

pub returns-in_ok-write_farkas-in-Refuted-clause-goes : goal.returns-in_ok-write_farkas-in-Refuted-clause-goes
returns-in_ok-write_farkas-in-Refuted-clause-goes c =
    let old = c.args.self.now in
    let d = dictionary_of c.args.self.now.dict in
    let b = option_map dictionary_of c.args.self.now.best in
    leaf_goes c.args.system.now old c.write_farkas.new.self c.close.new.self (Farkas (farkas_factors d c.in-Refuted.row)) c.args.next c.close.result c.requires.done c.requires.place c.in_ok-write_farkas-in-Refuted.ensures.fits (ap (decision_of b d) c.in-Refuted.is) c.in_ok-write_farkas-in-Refuted.ensures.wrote c.close.ensures

pub returns-in_ok-write_bound-in-Bounded-clause-goes : goal.returns-in_ok-write_bound-in-Bounded-clause-goes
returns-in_ok-write_bound-in-Bounded-clause-goes c =
    let old = c.args.self.now in
    let d = dictionary_of c.args.self.now.dict in
    let b = option_map dictionary_of c.args.self.now.best in
    leaf_goes c.args.system.now old c.write_bound.new.self c.close-in-Bounded.new.self (bound_of d c.in-Bounded.row) c.args.next c.close-in-Bounded.result c.requires.done c.requires.place c.in_ok-write_bound-in-Bounded.ensures.fits (ap (decision_of b d) c.in-Bounded.is) c.in_ok-write_bound-in-Bounded.ensures.wrote c.close-in-Bounded.ensures

pub returns-in_ok-keep_best-in-Better-clause-goes : goal.returns-in_ok-keep_best-in-Better-clause-goes
returns-in_ok-keep_best-in-Better-clause-goes c =
    let old = c.args.self.now in
    let d = dictionary_of c.args.self.now.dict in
    let b = option_map dictionary_of c.args.self.now.best in
    let f = subst (NextFits c.args.system.now d) c.in-Better.is c.requires.next in
    better_goes c.args.system.now old c.write_bound-in-Better.new.self c.keep_best.new.self c.close-in-Better.new.self (bound_of d c.in-Better.row) c.args.next c.close-in-Better.result c.requires.done c.requires.place c.in_ok-write_bound-in-Better.ensures.fits f.1 (ap (decision_of b d) c.in-Better.is) c.in_ok-write_bound-in-Better.ensures.wrote c.in_ok-keep_best-in-Better.ensures c.close-in-Better.ensures

pub returns-in_ok-split-in-Split-clause-goes : goal.returns-in_ok-split-in-Split-clause-goes
returns-in_ok-split-in-Split-clause-goes c =
    let d = dictionary_of c.args.self.now.dict in
    let b = option_map dictionary_of c.args.self.now.best in
    split_goes c.args.system.now c.in-Split.k c.args.self.now c.split.new.self c.args.next c.requires.done c.requires.place (subst (NextFits c.args.system.now d) c.in-Split.is c.requires.next) (ap (decision_of b d) c.in-Split.is) c.in_ok-split-in-Split.ensures

pub returns-in-Point-clause-goes : goal.returns-in-Point-clause-goes
returns-in-Point-clause-goes c =
    let d = dictionary_of c.args.self.now.dict in
    let b = option_map dictionary_of c.args.self.now.best in
    found_goes c.args.system.now c.args.self.now (point d) c.args.next Point (ap (decision_of b d) c.in-Point.is) refl tt c.requires.place

pub returns-in-Ray-clause-goes : goal.returns-in-Ray-clause-goes
returns-in-Ray-clause-goes c =
    let d = dictionary_of c.args.self.now.dict in
    let b = option_map dictionary_of c.args.self.now.best in
    found_goes c.args.system.now c.args.self.now (ray d c.in-Ray.column c.in-Ray.up) c.args.next (Ray c.in-Ray.column c.in-Ray.up) (ap (decision_of b d) c.in-Ray.is) refl (subst (NextFits c.args.system.now d) c.in-Ray.is c.requires.next) c.requires.place

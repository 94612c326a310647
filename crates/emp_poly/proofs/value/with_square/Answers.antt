use Rattle.std.proofs.Common.{◌+◌, ◌<◌, length, Ok, Err, arith, sym, subst}
use Rattle.std.proofs.lemmas.List.{take_all}
use Rattle.emp_form.specs.Calls.{Runs}
use Rattle.emp_poly.specs.Written.{square_from}
use Rattle.emp_poly.proofs.Writing.{square_step, square_stop, square_within}
use Rattle.emp_poly.proofs.value.with_square.Goals as goal

pub returns-in_default : goal.returns-in_default
returns-in_default c =
    square_stop c.args.start c.args.terms.now (c.loop-k.k + 1) c.args.point.now c.in_default.field-0
    (square_step c.args.start c.loop-k.sum c.args.terms.now c.loop-k.k c.index-terms-k.result c.args.point.now (Err c.in_default.field-0) (omega arith) c.index-terms-k.is c.loop-k.invariant c.in_default.ensures)

pub loop-k-preserved : goal.loop-k-preserved
loop-k-preserved c =
    square_step c.args.start c.loop-k.sum c.args.terms.now c.loop-k.k c.index-terms-k.result c.args.point.now (Ok c.in-Ok.next) (omega arith) c.index-terms-k.is c.loop-k.invariant c.in-Ok.ensures

pub returns : goal.returns
returns c = λ s h. subst (λ ts. Runs (square_from s ts c.args.point.now) (Ok c.loop-k.sum)) (take_all c.loop-k.k c.args.terms.now (omega arith)) (c.loop-k.invariant s h)

pub add_square-requires-clause-first : goal.add_square-requires-clause-first
add_square-requires-clause-first c = subst (λ t. t.0.at < length c.args.point.now) (sym c.index-terms-k.is) (square_within (length c.args.point.now) c.args.terms.now c.loop-k.k c.index-terms-k.result c.requires (omega arith)).0

pub add_square-requires-clause-second : goal.add_square-requires-clause-second
add_square-requires-clause-second c = subst (λ t. t.1.at < length c.args.point.now) (sym c.index-terms-k.is) (square_within (length c.args.point.now) c.args.terms.now c.loop-k.k c.index-terms-k.result c.requires (omega arith)).1

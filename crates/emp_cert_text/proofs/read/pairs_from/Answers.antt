use Rattle.std.proofs.Common.{◌≡◌, ◌+◌, ◌-◌, ◌++◌, [], ◌∷◌, length, drop, arith, rules}
use Rattle.emp_cert_text.proofs.Reading.{pairs_step, first_more, second_more, length_pairs}
use Rattle.emp_cert_text.specs.Course.{pairs_before}
use Rattle.emp_cert_text.proofs.Places.{pairs_next, pairs_all}
use Rattle.emp_cert_text.proofs.read.pairs_from.Goals as goal

pub loop-done-preserved : goal.loop-done-preserved
loop-done-preserved c =
    let grown : c.push.new.self ≡ c.loop-done.out ++ c.in_ok-pair.pair ∷ [] = c.in_ok-push.ensures.ok in
    let before : length c.loop-done.out ≡ c.loop-done._done = c.loop-done.invariant.count in
    record {
      text = pairs_step (drop c.args.spot.at c.args.text.now) (drop c.loop-done.here.at c.args.text.now) (drop c.in_ok-pair.next.at c.args.text.now) c.loop-done.out c.push.new.self c.in_ok-pair.pair grown c.loop-done.invariant.text c.in_ok-pair.ensures.text;
      within = c.in_ok-pair.ensures.within;
      count = omega (arith, length_pairs c.loop-done.out c.push.new.self c.in_ok-pair.pair grown);
      next = λ ps h. c.in_ok-pair.ensures.next (pairs_before (c.args.sizes.pairs - (c.loop-done._done + 1)) c.args.sizes.quantities ps) (pairs_next c.args.text.now c.args.sizes.pairs c.loop-done._done c.args.sizes.quantities ps c.loop-done.here (omega arith) (c.loop-done.invariant.next ps h));
      first = first_more c.args.sizes.quantities c.loop-done.out c.push.new.self c.in_ok-pair.pair grown c.loop-done.invariant.first c.in_ok-pair.ensures.first;
      second = second_more c.args.sizes.quantities c.loop-done.out c.push.new.self c.in_ok-pair.pair grown c.loop-done.invariant.second c.in_ok-pair.ensures.second;
    }

pub returns-in_err-pair-clause-err : goal.returns-in_err-pair-clause-err
returns-in_err-pair-clause-err c = λ ps h.
    let f = c.in_err-pair.ensures.err (pairs_before (c.args.sizes.pairs - (c.loop-done._done + 1)) c.args.sizes.quantities ps) (pairs_next c.args.text.now c.args.sizes.pairs c.loop-done._done c.args.sizes.quantities ps c.loop-done.here (omega arith) (c.loop-done.invariant.next ps h)) in
    search rules

pub returns-clause-next : goal.returns-clause-next
returns-clause-next c = λ ps h. pairs_all c.args.text.now c.args.sizes.pairs c.loop-done._done c.args.sizes.quantities ps c.loop-done.here (omega arith) (c.loop-done.invariant.next ps h)

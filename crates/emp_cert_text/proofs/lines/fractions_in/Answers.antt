use Rattle.std.proofs.Common.{◌≡◌, nat_eq, true, false, arith}
use Rattle.emp_numeral.specs.Numeral.{first}
use Rattle.emp_cert_text.proofs.Spaced.{fractions_on, fractions_no_space, fractions_fault, fractions_beyond}
use Rattle.emp_cert_text.proofs.lines.fractions_in.Goals as goal

pub returns-then-not-has_space : goal.returns-then-not-has_space
returns-then-not-has_space c =
    let no : nat_eq (first c.loop-done.rest.now) 32 ≡ false = cc in
    fractions_no_space c.args.count c.loop-done._done c.args.text.now c.loop-done.rest.now c.loop-done.out c.loop-done.outside (omega arith) no c.loop-done.invariant

pub returns-in-Err : goal.returns-in-Err
returns-in-Err c = fractions_fault c.args.count c.loop-done._done c.args.text.now c.loop-done.rest.now c.next_word.result.now c.loop-done.out c.push_fraction.new.out c.loop-done.outside c.in-Err.fault (omega arith) c.next_word.ensures c.in-Err.ensures c.loop-done.invariant

pub loop-done-preserved : goal.loop-done-preserved
loop-done-preserved c =
    let yes : nat_eq (first c.loop-done.rest.now) 32 ≡ true = cc in
    fractions_on c.args.count c.loop-done._done c.args.text.now c.loop-done.rest.now c.next_word.result.now c.rest_after-rest.result.now c.loop-done.out c.push_fraction.new.out c.loop-done.outside c.in-Ok.wide (omega arith) yes c.next_word.ensures c.rest_after-rest.ensures c.in-Ok.ensures c.loop-done.invariant

pub returns-then-outside : goal.returns-then-outside
returns-then-outside c =
    let end : c.is_end.result ≡ true = cc in
    fractions_beyond c.args.count c.loop-done._done c.args.text.now c.loop-done.rest.now c.loop-done.out c.loop-done.outside (omega arith) (c.if-outside.true) (c.is_end.ensures.0 end) c.loop-done.invariant

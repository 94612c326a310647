use Rattle.std.proofs.Common.{◌≡◌, nat_eq, true, false, arith}
use Rattle.emp_numeral.specs.Numeral.{first}
use Rattle.emp_cert_text.specs.Lines.{last_of}
use Rattle.emp_cert_text.proofs.Factors.{factors_on, factors_no_word, factors_stop, factors_beyond, rest_shorter, factor_at}
use Rattle.emp_cert_text.proofs.lines.sparse_in.Goals as goal

pub returns-in_default : goal.returns-in_default
returns-in_default c =
    let yes : nat_eq (first c.loop-before.rest.now) 32 ≡ true = cc in
    factors_no_word c.args.count c.args.text.now c.loop-before.rest.now c.loop-before.before.now c.next_word-word.result.now c.loop-before.out c.loop-before.outside yes c.next_word-word.ensures c.in_default.ensures c.loop-before.invariant

pub loop-before-smaller : goal.loop-before-smaller
loop-before-smaller c =
    let yes : nat_eq (first c.loop-before.rest.now) 32 ≡ true = cc in
    rest_shorter c.loop-before.rest.now c.rest_after-rest.result.now yes c.rest_after-rest.ensures

pub loop-before-preserved : goal.loop-before-preserved
loop-before-preserved c =
    let yes : nat_eq (first c.loop-before.rest.now) 32 ≡ true = cc in
    factors_on c.args.count c.args.text.now c.loop-before.rest.now c.loop-before.before.now c.next_word-word.result.now c.up_to-before.result.now c.from.result.now c.rest_after-rest.result.now c.loop-before.out c.take_factor.new.out c.loop-before.outside c.in_ok-taken.taken
    (omega arith) yes c.next_word-word.ensures c.rest_after-rest.ensures
    (factor_at (last_of c.loop-before.before.now) c.next_word-word.result.now c.up_to-before.result.now c.from.result.now c.in-Some.colon c.up_to-before.ensures c.from.ensures c.in-Some.ensures.1)
    c.in_ok-taken.ensures c.loop-before.invariant

pub returns-then-not-is_end : goal.returns-then-not-is_end
returns-then-not-is_end c =
    let no : nat_eq (first c.loop-before.rest.now) 32 ≡ false = cc in
    factors_stop c.args.count c.args.text.now c.loop-before.rest.now c.loop-before.before.now c.loop-before.out c.loop-before.outside c.is_end.result no c.is_end.ensures (cc) c.loop-before.invariant

pub returns-then-outside : goal.returns-then-outside
returns-then-outside c =
    let end : c.is_end.result ≡ true = cc in
    factors_beyond c.args.count c.args.text.now c.loop-before.rest.now c.loop-before.before.now c.loop-before.out c.loop-before.outside c.if-outside.true (c.is_end.ensures.0 end) c.loop-before.invariant

use Rattle.std.proofs.Common.{◌≡◌, nat_eq, true, rules, arith}
use mir.Syntax.{w128}
use mir.Val.{SFits}
use Rattle.std.proofs.lemmas.Int.{to_z-of_z}
use Rattle.emp_numeral.specs.Numeral.{first}
use Rattle.emp_cert_text.proofs.Nodes.{bound_no_word, bound_ok, bound_range, bound_fault}
use Rattle.emp_cert_text.proofs.lines.bound_in.Goals as goal

pub returns-then-not-is_number-clause-err : goal.returns-then-not-is_number-clause-err
returns-then-not-is_number-clause-err c = λ p. bound_no_word c.args.rest.now c.next_word-word.result.now c.args.second c.args.quantities c.is_number.result c.next_word-word.ensures c.is_number.ensures (cc)

pub returns-in-Some-clause-ok : goal.returns-in-Some-clause-ok
returns-in-Some-clause-ok c =
    let yes : nat_eq (first c.args.rest.now) 32 ≡ true = cc in
    let fits : SFits w128 c.in-Some.weight = search rules in
    simp to_z-of_z (λ p. bound_ok c.args.rest.now c.next_word-word.result.now c.rest_after.result.now c.in-Some.weight c.in-Ok.factors c.args.second c.args.quantities p yes c.next_word-word.ensures c.rest_after.ensures c.in-Ok.ensures c.in-Some.ensures.0 c.in-Some.ensures.1 c.in-Some.ensures.2 c.in-Some.ensures.3)

pub returns-in-None-clause-err : goal.returns-in-None-clause-err
returns-in-None-clause-err c =
    let yes : nat_eq (first c.args.rest.now) 32 ≡ true = cc in
    λ p. bound_range c.args.rest.now c.next_word-word.result.now c.rest_after.result.now c.in-Ok.factors c.args.second c.args.quantities p c.is_number.result (omega arith) yes c.next_word-word.ensures c.rest_after.ensures c.is_number.ensures (cc) c.in-Ok.ensures c.in-None.ensures

pub returns-in-Err-clause-err : goal.returns-in-Err-clause-err
returns-in-Err-clause-err c =
    let yes : nat_eq (first c.args.rest.now) 32 ≡ true = cc in
    λ p. bound_fault c.args.rest.now c.next_word-word.result.now c.rest_after.result.now c.in-Err.fault c.args.second c.args.quantities p c.is_number.result yes c.next_word-word.ensures c.rest_after.ensures c.is_number.ensures (cc) c.in-Err.ensures

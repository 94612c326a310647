use Rattle.std.proofs.Common.{arith}
use Rattle.emp_cert_text.specs.Lines.{last_of}
use Rattle.emp_cert_text.proofs.Factors.{no_colon, no_place, not_after, no_factor, is_factor}
use Rattle.emp_cert_text.proofs.lines.factor_at.Goals as goal

pub returns-then-colon-word : goal.returns-then-colon-word
returns-then-colon-word c = no_colon c.args.word.now c.place_of-colon.result (last_of c.args.before.now) (omega arith) c.place_of-colon.ensures.before

pub returns-then-not-is_number : goal.returns-then-not-is_number
returns-then-not-is_number c = no_place c.args.word.now c.place_of-colon.result (last_of c.args.before.now) c.up_to-place.result.now c.up_to-place.ensures c.place_of-colon.ensures.before (c.place_of-colon.ensures.at (omega arith)) c.is_number.result c.is_number.ensures (cc)

pub returns-then-not-is_after : goal.returns-then-not-is_after
returns-then-not-is_after c = not_after c.args.word.now c.place_of-colon.result (last_of c.args.before.now) c.up_to-place.result.now c.up_to-place.ensures c.place_of-colon.ensures.before (c.place_of-colon.ensures.at (omega arith)) c.is_after.result c.is_after.ensures (cc)

pub returns-then-not-is_other_than_zero : goal.returns-then-not-is_other_than_zero
returns-then-not-is_other_than_zero c = no_factor c.args.word.now c.place_of-colon.result (last_of c.args.before.now) c.from.result.now c.from.ensures c.place_of-colon.ensures.before (c.place_of-colon.ensures.at (omega arith)) c.is_other_than_zero.result c.is_other_than_zero.ensures (cc)

pub returns : goal.returns
returns c = (omega arith, is_factor c.args.word.now c.place_of-colon.result (last_of c.args.before.now) c.up_to-place.result.now c.from.result.now c.up_to-place.ensures c.from.ensures (c.place_of-colon.ensures.at (omega arith)) c.is_number.result c.is_after.result c.is_other_than_zero.result c.is_number.ensures c.is_after.ensures c.is_other_than_zero.ensures (cc) (cc) (cc))

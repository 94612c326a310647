use Rattle.std.proofs.Common.{◌∙◌}
use Rattle.emp_num.proofs.Commons.{common_point, stands_for_common}
use Rattle.emp_chain.proofs.Stating.{stated_system, chain_gives}
use Rattle.emp_chain.proofs.chain.values_at.Goals as goal

pub back_through-requires-clause-third_whole : goal.back_through-requires-clause-third_whole
back_through-requires-clause-third_whole c = stated_system c.args.model.now c.args.annot.now c.args.stated.now c.requires.stated

pub back_through-requires-clause-fits : goal.back_through-requires-clause-fits
back_through-requires-clause-fits c = record { point = common_point c.args.point.now; stood_for = stands_for_common c.args.point.now; fitting = (stands_for_common c.args.point.now).count ∙ c.requires.point }

pub returns : goal.returns
returns c =
    chain_gives c.args.model.now c.args.annot.now c.args.stated.now c.requires.stated c.args.point.now c.requires.point c.back_through.result (c.back_through.ensures (common_point c.args.point.now) (stands_for_common c.args.point.now))

use Rattle.std.proofs.Common.{◌++◌, codes}
use Rattle.emp_cert_text.proofs.Nodes.{ok_text, ok_fits, err_at}
use Rattle.emp_cert_text.proofs.lines.node_line.Goals as goal

pub returns-in-Some-clause-text : goal.returns-in-Some-clause-text
returns-in-Some-clause-text c = ok_text c.args.text.now (codes "branch" ++ c.in-Some.rest.now) c.args.second c.args.sizes.pairs c.args.sizes.quantities c.branch_in.result c.in-Some.ensures (c.branch_in.ensures.ok c.args.second c.args.sizes.quantities)

pub returns-in-Some-clause-fits : goal.returns-in-Some-clause-fits
returns-in-Some-clause-fits c = ok_fits c.args.text.now (codes "branch" ++ c.in-Some.rest.now) c.args.second c.args.sizes.pairs c.args.sizes.quantities c.branch_in.result c.in-Some.ensures (c.branch_in.ensures.ok c.args.second c.args.sizes.quantities)

pub returns-in-Some-clause-err : goal.returns-in-Some-clause-err
returns-in-Some-clause-err c = err_at c.args.text.now (codes "branch" ++ c.in-Some.rest.now) c.args.second c.args.sizes.pairs c.args.sizes.quantities c.branch_in.result c.in-Some.ensures (c.branch_in.ensures.err c.args.second c.args.sizes.quantities)

pub returns-in-Some-rest_of-clause-text : goal.returns-in-Some-rest_of-clause-text
returns-in-Some-rest_of-clause-text c = ok_text c.args.text.now (codes "farkas" ++ c.in-Some-rest_of.rest.now) c.args.second c.args.sizes.pairs c.args.sizes.quantities c.farkas_in.result c.in-Some-rest_of.ensures (c.farkas_in.ensures.ok c.args.sizes.pairs)

pub returns-in-Some-rest_of-clause-fits : goal.returns-in-Some-rest_of-clause-fits
returns-in-Some-rest_of-clause-fits c = ok_fits c.args.text.now (codes "farkas" ++ c.in-Some-rest_of.rest.now) c.args.second c.args.sizes.pairs c.args.sizes.quantities c.farkas_in.result c.in-Some-rest_of.ensures (c.farkas_in.ensures.ok c.args.sizes.pairs)

pub returns-in-Some-rest_of-clause-err : goal.returns-in-Some-rest_of-clause-err
returns-in-Some-rest_of-clause-err c = err_at c.args.text.now (codes "farkas" ++ c.in-Some-rest_of.rest.now) c.args.second c.args.sizes.pairs c.args.sizes.quantities c.farkas_in.result c.in-Some-rest_of.ensures (c.farkas_in.ensures.err c.args.sizes.pairs)

pub returns-in-Some-rest_of-2-clause-text : goal.returns-in-Some-rest_of-2-clause-text
returns-in-Some-rest_of-2-clause-text c = ok_text c.args.text.now (codes "bound" ++ c.in-Some-rest_of-2.rest.now) c.args.second c.args.sizes.pairs c.args.sizes.quantities c.bound_in.result c.in-Some-rest_of-2.ensures (c.bound_in.ensures.ok c.args.sizes.pairs)

pub returns-in-Some-rest_of-2-clause-fits : goal.returns-in-Some-rest_of-2-clause-fits
returns-in-Some-rest_of-2-clause-fits c = ok_fits c.args.text.now (codes "bound" ++ c.in-Some-rest_of-2.rest.now) c.args.second c.args.sizes.pairs c.args.sizes.quantities c.bound_in.result c.in-Some-rest_of-2.ensures (c.bound_in.ensures.ok c.args.sizes.pairs)

pub returns-in-Some-rest_of-2-clause-err : goal.returns-in-Some-rest_of-2-clause-err
returns-in-Some-rest_of-2-clause-err c = err_at c.args.text.now (codes "bound" ++ c.in-Some-rest_of-2.rest.now) c.args.second c.args.sizes.pairs c.args.sizes.quantities c.bound_in.result c.in-Some-rest_of-2.ensures (c.bound_in.ensures.err c.args.sizes.pairs)

use Rattle.std.proofs.Common.{arith}
use Rattle.emp_rows.proofs.Pairs.{few_pairs}
use Rattle.emp_walk.proofs.Certified.{counts_by, links_by, verdict_by}
use Rattle.emp_walk.proofs.walk.certified.Goals as goal

pub overflow_cast-cert-2 : goal.overflow_cast-cert-2
overflow_cast-cert-2 c = let n = c.len-2.ensures in omega (arith, few_pairs c.args.system.now)

pub invariant_of-cert : goal.invariant_of-cert
invariant_of-cert c =
    let s = c.args.system.now in
    record {
      counts = counts_by s c.len.result c.len-2.result c.len.ensures c.len-2.ensures;
      linked = λ ps e. links_by s c.len.result c.len-2.result c.in_ok-links.links ps c.len.ensures c.len-2.ensures c.in_ok-links.ensures e;
      fits = verdict_by s c.len.result c.len-2.result c.args.answer.verdict c.len.ensures c.len-2.ensures c.requires;
    }

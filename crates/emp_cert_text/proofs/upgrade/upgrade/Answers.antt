use Rattle.emp_cert_text.proofs.Upgrading.{links_fit}
use Rattle.emp_cert_text.proofs.upgrade.upgrade.Goals as goal

pub invariant_of-result : goal.invariant_of-result
invariant_of-result c = record {
  counts = c.args.cert.counts;
  linked = λ ps e. links_fit c.args.cert.quantities c.args.cert.pairs c.in_ok-links.links c.args.pairs.now ps c.in_ok-links.ensures c.requires.count c.requires.first c.requires.second e;
  fits = c.args.cert.fits;
}

use Rattle.info_read.proofs.OneText.{one_annotation}
use Rattle.info_read.proofs.laws.one_annotation.Goals as goal

pub returns : goal.returns
returns c = one_annotation

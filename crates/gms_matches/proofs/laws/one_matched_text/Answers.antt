use Rattle.gms_matches.proofs.OneText.{one_matched_text}
use Rattle.gms_matches.proofs.laws.one_matched_text.Goals as goal

pub returns : goal.returns
returns c = one_matched_text

use Rattle.emp_market.proofs.AcceptMarkets as Markets
use Rattle.emp_market.proofs.accepting.market_annots_fit.Goals as goal

pub returns : goal.returns
returns c = Markets.market_annots_fit

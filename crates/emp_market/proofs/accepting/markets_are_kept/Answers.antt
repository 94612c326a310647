use Rattle.emp_market.proofs.AcceptMarkets as Markets
use Rattle.emp_market.proofs.accepting.markets_are_kept.Goals as goal

pub returns : goal.returns
returns c = Markets.markets_are_kept

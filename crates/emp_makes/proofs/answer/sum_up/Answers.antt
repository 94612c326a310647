use Rattle.std.proofs.Common.{map, refl}
use Rattle.emp_command.specs.Deliveries.{stored_of}
use Rattle.emp_command.specs.Requests.{asked_of}
use Rattle.emp_makes.proofs.Files.{market_printable}
use Rattle.emp_makes.proofs.Summing.{says_sums}
use Rattle.emp_makes.proofs.answer.sum_up.Goals as goal

pub saves-requires : goal.saves-requires
saves-requires c = market_printable c.args.request.now.seed c.args.request.now.firms c.args.model.now c.requires.market.model

pub returns : goal.returns
returns c =
    says_sums c.args.model.now c.args.annot.now (asked_of c.args.request.now) c.args.totals.now (map stored_of c.in_ok-files.files.items) c.in_ok-text.text.items _ c.in_ok-files.ensures c.in_ok-text.ensures refl

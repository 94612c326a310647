-- The files of a market are an accepted pair.
use Rattle.std.proofs.Common.{ℕ, ◌<◌, length, arith, sym, subst}
use Rattle.emp_ast.specs.declared.annot.Annot.{Annot}
use Rattle.emp_owner.specs.Settled.{IsKept}
use Rattle.emp_problem.specs.Class.{AnnotFits}
use Rattle.emp_accepted.specs.Accepted.{IsAcceptedPair}
use Rattle.emp_make.specs.Markets.{firm_block}
use Rattle.emp_market.specs.Laws.{MarketsAreAccepted, MarketAnnotsFit, MarketGoalsFit, MarketsAreKept}
use Rattle.emp_market.proofs.AcceptLists.{length-listed}
use Rattle.emp_market.proofs.AcceptOwners.{annot_of, annot_is, annot_fits, goal_fits, is_kept}
use Rattle.emp_market.proofs.AcceptConvex.{is_class, is_convex}
use Rattle.emp_market.proofs.AcceptSizes.{base_count, row_count}

pub market_annots_fit : MarketAnnotsFit
market_annots_fit seed firms m a h = subst (λ (b : Annot). AnnotFits m b) (sym (annot_is firms a h.annot)) (annot_fits m firms h.model.variables h.model.equations)

pub market_goals_fit : MarketGoalsFit
market_goals_fit seed firms m a h = goal_fits m h.model.goal

pub markets_are_kept : MarketsAreKept
markets_are_kept seed firms m a h = subst (λ (b : Annot). IsKept m b) (sym (annot_is firms a h.annot)) (is_kept m firms h.model.variables h.model.equations)

firm_within : (firms k : ℕ) → k < length (annot_of firms).blocks → k < firms
firm_within firms k l =
    let count = length-listed (firm_block firms) 0 firms in
    omega (arith, count)

pub markets_are_accepted : MarketsAreAccepted
markets_are_accepted seed firms m a few h =
    subst (λ (b : Annot). IsAcceptedPair m b) (sym (annot_is firms a h.annot))
    record {
      class = is_class m firms seed h.model;
      convex = λ k l. is_convex m firms seed h.model k (firm_within firms k l);
      sizes = λ pr is.
          let base = base_count m firms seed h.model pr is in
          let rows = row_count m firms seed h.model pr is in
          (omega (arith, base), omega (arith, rows));
    }

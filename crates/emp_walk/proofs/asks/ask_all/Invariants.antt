use Rattle.std.proofs.Common.{◌≡◌, ℕ, ◌+◌, ◌<◌, drop}
use Rattle.emp_dict.specs.Dictionary.{mark_at}
use Rattle.emp_dict.specs.declared.label.Mark.TheVariants.{Unasked}
use Rattle.emp_dict.specs.Dicts.{dictionary_of}
use Rattle.emp_face.specs.Budgets.{units_left}
use Rattle.emp_search.specs.Search.{asked, asks_from}
use Rattle.emp_walk.specs.Fits.{IsAt}
use Rattle.emp_walk.proofs.asks.ask_all.Given as goal

abbrev pub invariant-loop-at : goal.invariant-loop-at
invariant-loop-at g l = record {
  same : asked (asks_from 1 l.fn.system.kinds) (units_left l.fn.budget) (dictionary_of l.fn.dict) ≡ asked (asks_from (l.at + 1) (drop l.at l.system.kinds)) (units_left l.budget) (dictionary_of l.dict);
  at : IsAt l.system (dictionary_of l.dict);
  later : (q : ℕ) → l.at < q → mark_at (dictionary_of l.dict) q ≡ Unasked;
  limit : l.budget.limit ≡ l.fn.budget.limit;
}

use Rattle.std.proofs.Common.{◌≡◌, ◌+◌, drop}
use Rattle.emp_dict.specs.Dicts.{dictionary_of}
use Rattle.emp_search.specs.Search.{first_pair}
use Rattle.emp_walk.specs.Decisions.{passes}
use Rattle.emp_walk.proofs.next.first_pair.Given as goal

abbrev pub invariant-loop-at : goal.invariant-loop-at
invariant-loop-at l = first_pair (passes (dictionary_of l.dict) l.test) 1 l.system.pairs ≡ first_pair (passes (dictionary_of l.dict) l.test) (l.at + 1) (drop l.at l.system.pairs)

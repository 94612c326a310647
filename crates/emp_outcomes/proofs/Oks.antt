-- What holds of an answer where there is one.
use Rattle.std.proofs.Common.{Result, Ok, Err, IfOk}
use Rattle.emp_list.specs.declared.memory.NoMemory.{NoMemory}
use Rattle.emp_outcomes.specs.declared.said.Answer.{Answer}

pub ok_map : (x : Result Answer NoMemory) (P Q : Answer → Type 0) → ((a : Answer) → P a → Q a) → IfOk x P → IfOk x Q
ok_map (Ok a) P Q h p = h a p
ok_map (Err e) P Q h p = tt

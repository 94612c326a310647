-- What a value of the type Dict stands for, and what its calls make of it.
use Rattle.std.specs.Prelude.{◌≡◌, ℕ, Some, None, Result, Ok, Err}
use Rattle.emp_num.specs.declared.exact.Wide.{Wide}
use Rattle.emp_dict.specs.declared.dict.Dict.{Dict}
use Rattle.emp_dict.specs.Dictionary.{Dictionary, exchanged}

abbrev pub dictionary_of : Dict → Dictionary
dictionary_of d = record { lines = d.table; rows = d.rows; columns = d.columns; marks = d.marks }

-- the exchange; where a number that it forms is wide there is none, and nothing changes
abbrev pub PivotGives : ℕ → ℕ → Dict → Dict → Result (Unit {0}) Wide → Type 0
PivotGives r j old new (Ok u) = exchanged (dictionary_of old) r j ≡ Some (dictionary_of new)
PivotGives r j old new (Err e) = (exchanged (dictionary_of old) r j ≡ None) × (dictionary_of new ≡ dictionary_of old)

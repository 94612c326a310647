use Rattle.std.proofs.Common.{◌≡◌, pos, length, replicate, All}
use Rattle.emp_num.specs.Exact.{IsNarrow}
use Rattle.emp_dict.specs.Dictionary.{row_label}
use Rattle.emp_dict.specs.Dicts.{dictionary_of}
use Rattle.emp_decide.specs.Reads.{put, spread, way}
use Rattle.emp_decide.proofs.row.factors.Given as goal

abbrev pub invariant-loop-column : goal.invariant-loop-column
invariant-loop-column l = record {
  made : l.out ≡ spread (dictionary_of l.dict) l.row (way l.up) l.column (put (row_label (dictionary_of l.dict) l.row) l.own (replicate (length (dictionary_of l.dict).marks) (pos 0)));
  narrow : All IsNarrow l.out;
}

use Rattle.std.proofs.Common.{sym, ◌∙◌}
use Rattle.emp_dict.specs.Dicts.{dictionary_of}
use Rattle.emp_dict.specs.Chosen.{way_by}
use Rattle.emp_dict.proofs.Choosing.{stopping_cell, passed_by}
use Rattle.emp_dict.proofs.dict.Dict.better_row.Goals as goal

pub returns-in_default-clause-kept : goal.returns-in_default-clause-kept
returns-in_default-clause-kept c = (c.requires.row, stopping_cell (dictionary_of c.args.self.now) c.args.aim c.args.entry.column (way_by c.args.entry.up) c.args.row c.requires.opens (sym c.stops.ensures ∙ c.if-not-stops.false))

pub returns-then-not-has_cell-clause-value : goal.returns-then-not-has_cell-clause-value
returns-then-not-has_cell-clause-value c = passed_by (dictionary_of c.args.self.now) c.args.aim c.args.entry.column (way_by c.args.entry.up) c.args.row c.args.best c.has_cell.result c.requires.opens c.has_cell.ensures c.if-not-has_cell.true

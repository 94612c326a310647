use Rattle.std.proofs.Common.{sym, ap, ◌∙◌}
use Rattle.std.specs.Option.{option_map}
use Rattle.emp_dict.specs.Dicts.{dictionary_of}
use Rattle.emp_dict.specs.Places.{entry_of}
use Rattle.emp_dict.proofs.Choosing.{entering_opens}
use Rattle.emp_dict.proofs.dict.Dict.choose.Goals as goal

pub leaving-requires-clause-opens : goal.leaving-requires-clause-opens
leaving-requires-clause-opens c = (entering_opens (dictionary_of c.args.self.now) c.args.aim (entry_of c.in-Some.entry) (sym c.entering.ensures ∙ ap (option_map entry_of) c.in-Some.is)).1

pub leaving-requires-clause-column : goal.leaving-requires-clause-column
leaving-requires-clause-column c = (entering_opens (dictionary_of c.args.self.now) c.args.aim (entry_of c.in-Some.entry) (sym c.entering.ensures ∙ ap (option_map entry_of) c.in-Some.is)).0

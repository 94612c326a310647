use Rattle.gms_grammar.specs.declared.kind.Kind.TheVariants.{Agents}
use Rattle.gms_read.proofs.Reading.{finish_gives}
use Rattle.gms_read.proofs.read.read_model.Goals as goal

pub returns : goal.returns
returns c = finish_gives Agents c.args.text.now c.in_ok-drafted.drafted.items.items c.in_ok-drafted.drafted.draft c.finish.result c.in_ok-drafted.ensures c.finish.ensures

use Rattle.std.proofs.Common.{map, subst₂, ◌∙◌}
use Rattle.emp_command.specs.Lines.{unwritten_line}
use Rattle.emp_command.specs.Deliveries.{SayEnds, stored_of}
use Rattle.emp_command.proofs.Delivering.{stored_end, unstored_end, no_room_end, failed_cause}
use Rattle.emp_command.proofs.delivery.deliver.Goals as goal

pub returns-in-Ok-clause-told : goal.returns-in-Ok-clause-told
returns-in-Ok-clause-told g c =
    stored_end c.args.status (map stored_of c.args.files.now) c.args.text.now (g.D.Desk.faults c.args.desk.now) (g.D.Desk.faults c.store_all.new.desk) (g.D.Desk.faults c.say.new.desk) (g.D.Desk.tells c.args.desk.now) (g.D.Desk.tells c.store_all.new.desk) (g.D.Desk.tells c.say.new.desk) _ c.store_all.ensures.none_falls c.in-Ok.ensures.stored c.say.ensures.ends

pub returns-in-Err-Failed-clause-told : goal.returns-in-Err-Failed-clause-told
returns-in-Err-Failed-clause-told g c =
    let said =
    subst₂ (λ s l. SayEnds s l (g.D.Desk.faults c.store_all.new.desk) (g.D.Desk.faults c.say-in-Err-Failed.new.desk) (g.D.Desk.tells c.store_all.new.desk) (g.D.Desk.tells c.say-in-Err-Failed.new.desk) c.say-in-Err-Failed.result) c.status.ensures (c.as_slice.ensures.value ∙ c.line.ensures) c.say-in-Err-Failed.ensures.ends in
    unstored_end c.args.status (map stored_of c.args.files.now) c.args.text.now (g.D.Desk.faults c.args.desk.now) (g.D.Desk.faults c.store_all.new.desk) (g.D.Desk.faults c.say-in-Err-Failed.new.desk) (g.D.Desk.tells c.args.desk.now) (g.D.Desk.tells c.store_all.new.desk) (g.D.Desk.tells c.say-in-Err-Failed.new.desk) _ c.store_all.ensures.none_falls c.say-in-Err-Failed.ensures.none_falls (c.in-Err-Failed.ensures.failed c.in-Err-Failed.field-0-is) c.in-Err-Failed.ensures.cut said

pub returns-in-Err-Failed-clause-cause : goal.returns-in-Err-Failed-clause-cause
returns-in-Err-Failed-clause-cause g c =
    let said =
    subst₂ (λ s l. SayEnds s l (g.D.Desk.faults c.store_all.new.desk) (g.D.Desk.faults c.say-in-Err-Failed.new.desk) (g.D.Desk.tells c.store_all.new.desk) (g.D.Desk.tells c.say-in-Err-Failed.new.desk) c.say-in-Err-Failed.result) c.status.ensures (c.as_slice.ensures.value ∙ c.line.ensures) c.say-in-Err-Failed.ensures.ends in
    failed_cause c.args.status (map stored_of c.args.files.now) c.args.text.now (g.D.Desk.faults c.args.desk.now) (g.D.Desk.faults c.store_all.new.desk) (g.D.Desk.faults c.say-in-Err-Failed.new.desk) (g.D.Desk.tells c.args.desk.now) (g.D.Desk.tells c.store_all.new.desk) (g.D.Desk.tells c.say-in-Err-Failed.new.desk) _ unwritten_line c.store_all.ensures.none_falls c.say-in-Err-Failed.ensures.none_falls (c.in-Err-Failed.ensures.failed c.in-Err-Failed.field-0-is) said

pub returns-in-Err-NoMemory-clause-told : goal.returns-in-Err-NoMemory-clause-told
returns-in-Err-NoMemory-clause-told g c =
    let said =
    subst₂ (λ s l. SayEnds s l (g.D.Desk.faults c.store_all.new.desk) (g.D.Desk.faults c.say-in-Err-NoMemory.new.desk) (g.D.Desk.tells c.store_all.new.desk) (g.D.Desk.tells c.say-in-Err-NoMemory.new.desk) c.say-in-Err-NoMemory.result) c.status-in-Err-NoMemory.ensures (c.as_slice-in-Err-NoMemory.ensures.value ∙ c.line-in-Err-NoMemory.ensures) c.say-in-Err-NoMemory.ensures.ends in
    no_room_end c.args.status (map stored_of c.args.files.now) c.args.text.now (g.D.Desk.faults c.args.desk.now) (g.D.Desk.faults c.store_all.new.desk) (g.D.Desk.faults c.say-in-Err-NoMemory.new.desk) (g.D.Desk.tells c.args.desk.now) (g.D.Desk.tells c.store_all.new.desk) (g.D.Desk.tells c.say-in-Err-NoMemory.new.desk) _ c.store_all.ensures.none_falls c.in-Err-NoMemory.ensures.cut said

use Rattle.std.proofs.Common.{refl, subst}
use Rattle.emp_pieces.specs.Walks.{Came}
use Rattle.emp_pieces.proofs.Listing.{gathers_more, gathers_all, gathers_fault, list_shows}
use Rattle.emp_pieces.proofs.list.pieces.Goals as goal

pub loop-piece-preserved : goal.loop-piece-preserved
loop-piece-preserved c =
    gathers_more c.args.system.now c.args.work c.loop-piece.items c.push.new.self c.loop-piece.walk c.next.new.self c.in-Ok-Some.piece c.loop-piece.invariant (subst (λ r. Came c.args.system.now c.loop-piece.walk c.next.new.self r) c.in-Ok-Some.field-0-is c.in-Ok-Some.ensures) c.in-Ok-push.ensures.ok

pub returns-in-Ok-None-clause-gives : goal.returns-in-Ok-None-clause-gives
returns-in-Ok-None-clause-gives c =
    gathers_all c.args.system.now c.args.work c.loop-piece.items c.loop-piece.walk c.next.new.self c.loop-piece.invariant (subst (λ r. Came c.args.system.now c.loop-piece.walk c.next.new.self r) c.in-Ok-None.field-0-is c.in-Ok-None.ensures)
    (record { work = c.next.new.self.budget.used; nodes = c.next.new.self.nodes; items = c.loop-piece.items }) refl refl refl

pub returns-in-Ok-None-clause-shown : goal.returns-in-Ok-None-clause-shown
returns-in-Ok-None-clause-shown c = list_shows c.args.system.now c.args.work (record { work = c.next.new.self.budget.used; nodes = c.next.new.self.nodes; items = c.loop-piece.items }) (
    gathers_all c.args.system.now c.args.work c.loop-piece.items c.loop-piece.walk c.next.new.self c.loop-piece.invariant (subst (λ r. Came c.args.system.now c.loop-piece.walk c.next.new.self r) c.in-Ok-None.field-0-is c.in-Ok-None.ensures)
    (record { work = c.next.new.self.budget.used; nodes = c.next.new.self.nodes; items = c.loop-piece.items }) refl refl refl
    )

pub returns-in-Err-clause-gives : goal.returns-in-Err-clause-gives
returns-in-Err-clause-gives c = gathers_fault c.args.system.now c.args.work c.loop-piece.items c.loop-piece.walk c.in-Err.fault c.loop-piece.invariant c.in-Err.ensures

use Rattle.std.proofs.Common.{refl, subst}
use Rattle.emp_step.specs.declared.outcome.Outcome.TheVariants.{Empty, Best, Ray}
use Rattle.emp_pieces.specs.Walks.{Opened}
use Rattle.emp_pieces.proofs.Walking.{held_goes, other_goes}
use Rattle.emp_pieces.proofs.walk.Walk.turn.Goals as goal

pub returns-in-Ok-settle : goal.returns-in-Ok-settle
returns-in-Ok-settle g c =
    held_goes c.args.system.now c.args.self.now c.open.new.self c.settle.new.self c.args.node c.open.new.node c.in-Ok-settle.piece c.requires.fits (subst (λ o. Opened c.args.system.now c.args.self.now c.args.node c.open.new.self c.open.new.node o) c.in-Held.is c.in-Ok.ensures) c.in-Ok-settle.ensures

pub returns-in-Empty : goal.returns-in-Empty
returns-in-Empty g c =
    other_goes c.args.system.now c.args.self.now c.open.new.self c.args.node c.open.new.node (Empty c.in-Empty.field-0) (λ rest p. refl) c.requires.fits (subst (λ o. Opened c.args.system.now c.args.self.now c.args.node c.open.new.self c.open.new.node o) c.in-Empty.is c.in-Ok.ensures)

pub returns-in-Best : goal.returns-in-Best
returns-in-Best g c =
    other_goes c.args.system.now c.args.self.now c.open.new.self c.args.node c.open.new.node (Best c.in-Best.field-0) (λ rest p. refl) c.requires.fits (subst (λ o. Opened c.args.system.now c.args.self.now c.args.node c.open.new.self c.open.new.node o) c.in-Best.is c.in-Ok.ensures)

pub returns-in-Ray : goal.returns-in-Ray
returns-in-Ray g c =
    other_goes c.args.system.now c.args.self.now c.open.new.self c.args.node c.open.new.node (Ray c.in-Ray.field-0 c.in-Ray.field-1) (λ rest p. refl) c.requires.fits (subst (λ o. Opened c.args.system.now c.args.self.now c.args.node c.open.new.self c.open.new.node o) c.in-Ray.is c.in-Ok.ensures)

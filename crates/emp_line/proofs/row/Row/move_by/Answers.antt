use Rattle.std.proofs.Common.{◌≡◌, ◌<◌, ◌<ℤ◌, ◌∙◌, pos, false, length, ap, sym, subst}
use Rattle.emp_line.specs.declared.line.Line.{Line}
use Rattle.emp_line.specs.Pivot.{Factors, combination_wide, line_content}
use Rattle.emp_line.specs.Lines.{IsLine}
use Rattle.emp_line.specs.Place.{factors_of}
use Rattle.emp_algebra.specs.Vector.{cell}
use Rattle.emp_line.proofs.Sound.{own_positive, combined_sound, length-quotients}
use Rattle.emp_line.proofs.Joins.{own_width}
use Rattle.emp_line.proofs.Parts.{narrow_moves}
use Rattle.emp_line.proofs.row.Row.move_by.Goals as goal
use Rattle.emp_line.proofs.row.Row.move_by.Goals.{After-set_sum}

-- no number of the sum is wide
narrow : (c : After-set_sum) → combination_wide (factors_of c.multipliers-multipliers.result) c.args.self.now c.args.pivot.now c.args.column ≡ false
narrow c = narrow_moves c.args.pivot.now c.args.self.now c.args.column (factors_of c.multipliers-multipliers.result) c.requires.nonzero c.multipliers-multipliers.ensures c.requires.narrow

-- the whole line before it is divided
sound : (c : After-set_sum) → IsLine (length c.args.self.now.cells) c.set_sum.new.self
sound c =
    let p : pos 0 <ℤ (factors_of c.multipliers-multipliers.result).own = subst (λ (f : Factors). pos 0 <ℤ f.own) (sym c.multipliers-multipliers.ensures) (own_positive c.args.pivot.now.denom (cell c.args.self.now.cells c.args.column) c.requires.pivot.positive) in
    subst (IsLine (length c.args.self.now.cells)) (sym c.set_sum.ensures) (combined_sound (length c.args.self.now.cells) (factors_of c.multipliers-multipliers.result) c.args.self.now c.args.pivot.now c.args.column c.requires.line c.requires.pivot p (narrow c))

pub take_reduced-requires-clause-sound : goal.take_reduced-requires-clause-sound
take_reduced-requires-clause-sound c = own_width (length c.args.self.now.cells) c.set_sum.new.self (sound (goal.at.take_reduced-requires-clause-sound c).After-set_sum)

pub take_reduced-requires-clause-width : goal.take_reduced-requires-clause-width
take_reduced-requires-clause-width c = (sound (goal.at.take_reduced-requires-clause-width c).After-set_sum).width

pub take_reduced-requires-clause-column : goal.take_reduced-requires-clause-column
take_reduced-requires-clause-column c = subst (λ n. c.args.column < n) (sym (sound (goal.at.take_reduced-requires-clause-column c).After-set_sum).width) c.requires.column

pub returns-clause-spare : goal.returns-clause-spare
returns-clause-spare c = c.take_reduced.ensures.width ∙ ((sound (goal.at.returns-clause-spare c).After-set_sum).width ∙ sym c.requires.spare)

pub returns-clause-width : goal.returns-clause-width
returns-clause-width c =
    let s = sound (goal.at.returns-clause-width c).After-set_sum in
    ap (λ (x : Line). length x.cells) c.take_reduced.ensures.reduced ∙ (length-quotients c.set_sum.new.self.cells (line_content c.set_sum.new.self) ∙ s.width)

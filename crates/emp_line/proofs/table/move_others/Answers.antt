use Rattle.std.proofs.Common.{◌<◌, ◌+◌, ◌∙◌, length, arith, ap, sym, subst}
use Rattle.emp_line.specs.Indexed.{flag, IsFlagged}
use Rattle.emp_line.proofs.Tables.{moving_own, moving_still, moving_next, moving_as}
use Rattle.emp_line.proofs.table.move_others.Goals as goal
use Rattle.emp_line.proofs.table.move_others.Goals.{then-at-row+then-has, else-at-row, else-at-row-via-then-at-row+else-has, else-at-row-via-else-at-row}

pub loop-at-preserved : goal.loop-at-preserved
loop-at-preserved c =
    let h : c.loop-at.at < length c.args.lines.now = omega arith in
    let t = c.args.pivot.now in
    let r = c.args.row in
    let j = c.args.column in
    let at = c.loop-at.at in
    let old = c.args.lines.now in
    let lines = c.loop-at.lines in
    let index = c.loop-at.index in
    let spare = c.loop-at.spare in
    let m = c.loop-at.invariant in
    elim c.if-at-row.branch [
      | then-at-row+then-has w ↦ moving_next t r j at old lines c.if-at-row.lines index c.if-at-row.index spare c.if-at-row.spare w.get_mut.result.now w.move_flagged.new.self c.requires.pivot m h w.if-at-row.true w.get_mut.ensures.value w.move_flagged.ensures.moved w.lines-is
          (subst (λ x. IsFlagged w.move_flagged.new.self at index x) (sym w.index-is) w.move_flagged.ensures.index) (ap (λ x. length x.cells) w.spare-is ∙ w.move_flagged.ensures.spare)
      | else-at-row w ↦ elim w.else-at-row.branch [
        | else-at-row-via-then-at-row+else-has v ↦ moving_as t r j (at + 1) old lines c.if-at-row.lines index c.if-at-row.index spare c.if-at-row.spare (moving_still t r j at old lines index spare m h c.requires.column (sym (ap (λ x. flag x j at) v.as_slice.ensures) ∙ (sym v.has.ensures ∙ v.if-has.false))) w.lines-is w.index-is w.spare-is
        | else-at-row-via-else-at-row v ↦ moving_as t r j (at + 1) old lines c.if-at-row.lines index c.if-at-row.index spare c.if-at-row.spare (moving_own t r j at old lines index spare m v.if-at-row.false) w.lines-is w.index-is w.spare-is
      ]
    ]

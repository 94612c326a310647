use Rattle.std.proofs.Common.{◌≡◌, ◌≢◌, ◌<◌, ◌∙◌, ℕ, false, Some, List, length, get_or, arith, ap, sym, subst, length-set, get_or-set_same, get_or-set_other}
use Rattle.std.specs.List.{All}
use Rattle.std.proofs.lemmas.List.{get_or_default}
use Rattle.emp_line.specs.declared.line.Line.{Line}
use Rattle.emp_line.specs.Pivot.{no_line, turned, moved, pivoted_from}
use Rattle.emp_line.specs.Lines.{IsLine}
use Rattle.emp_line.specs.Indexed.{IsIndex}
use Rattle.emp_line.specs.Place.{is_none, moved_wide}
use Rattle.emp_line.proofs.Sound.{turned_sound}
use Rattle.emp_line.proofs.Joins.{own_width}
use Rattle.emp_line.proofs.Exchange.{length-turned}
use Rattle.emp_line.proofs.Whole.{narrow_others, pivots_back}
use Rattle.emp_line.proofs.Tables.{table_after}
use Rattle.emp_line.proofs.table.pivot_rows.Goals as goal
use Rattle.emp_line.proofs.table.pivot_rows.Goals.{After-set_turned}

-- the turned line is the pivot's line turned
same : (c : After-set_turned) → c.set_turned.new.self ≡ turned (get_or c.args.lines.now c.args.row no_line) c.args.column
same c = c.set_turned.ensures ∙ ap (λ l. turned l c.args.column) (c.get.ensures ∙ get_or_default c.args.lines.now c.args.row c.get.result.now no_line c.requires.row)

width : (c : After-set_turned) → length c.set_turned.new.self.cells ≡ length (get_or c.args.lines.now c.args.row no_line).cells
width c = ap (λ (l : Line). length l.cells) (same c) ∙ length-turned (get_or c.args.lines.now c.args.row no_line) c.args.column

table_width : (c : After-set_turned) → length (get_or c.args.lines.now c.args.row no_line).cells ≡ length c.args.turned.now.cells
table_width c = c.requires.table.lines c.args.row c.requires.row

sound : (c : After-set_turned) → IsLine (length c.set_turned.new.self.cells) c.set_turned.new.self
sound c =
    let w : ℕ = length (get_or c.args.lines.now c.args.row no_line).cells in
    own_width w c.set_turned.new.self (subst (IsLine w) (sym (same c)) (turned_sound w (get_or c.args.lines.now c.args.row no_line) c.args.column (c.requires.lines c.args.row no_line c.requires.row) c.requires.column c.requires.nonzero))

lines : (c : After-set_turned) → All (IsLine (length c.set_turned.new.self.cells)) c.args.lines.now
lines c = subst (λ w. All (IsLine w) c.args.lines.now) (sym (width c)) c.requires.lines

column : (c : After-set_turned) → c.args.column < length c.set_turned.new.self.cells
column c = subst (λ n. c.args.column < n) (sym (width c)) c.requires.column

pub some_is_wide-requires-clause-sound : goal.some_is_wide-requires-clause-sound
some_is_wide-requires-clause-sound c = sound (goal.at.some_is_wide-requires-clause-sound c).After-set_turned

pub some_is_wide-requires-clause-lines : goal.some_is_wide-requires-clause-lines
some_is_wide-requires-clause-lines c = let w : ℕ = length c.set_turned.new.self.cells in subst (All (IsLine w)) (sym c.as_slice.ensures) (lines (goal.at.some_is_wide-requires-clause-lines c).After-set_turned)

pub some_is_wide-requires-clause-column : goal.some_is_wide-requires-clause-column
some_is_wide-requires-clause-column c = column (goal.at.some_is_wide-requires-clause-column c).After-set_turned

pub returns-then-some_is_wide-clause-table : goal.returns-then-some_is_wide-clause-table
returns-then-some_is_wide-clause-table c =
    let k = (goal.at.returns-then-some_is_wide-clause-table c).After-set_turned in
    let w : length c.args.turned.now.cells ≡ length c.set_turned.new.self.cells = sym (width k ∙ table_width k) in
    record {
      index = subst (λ n. IsIndex n c.args.index.now c.args.lines.now) w c.requires.table.index;
      spare = c.requires.table.spare ∙ w;
      lines = λ i h. c.requires.table.lines i h ∙ w;
    }

pub move_others-requires-clause-pivot : goal.move_others-requires-clause-pivot
move_others-requires-clause-pivot c = sound (goal.at.move_others-requires-clause-pivot c).After-set_turned

pub move_others-requires-clause-spare : goal.move_others-requires-clause-spare
move_others-requires-clause-spare c = let k = (goal.at.move_others-requires-clause-spare c).After-set_turned in c.requires.table.spare ∙ sym (width k ∙ table_width k)

pub move_others-requires-clause-column : goal.move_others-requires-clause-column
move_others-requires-clause-column c = column (goal.at.move_others-requires-clause-column c).After-set_turned

pub move_others-requires-clause-index : goal.move_others-requires-clause-index
move_others-requires-clause-index c = let k = (goal.at.move_others-requires-clause-index c).After-set_turned in subst (λ n. IsIndex n c.args.index.now c.args.lines.now) (sym (width k ∙ table_width k)) c.requires.table.index

pub move_others-requires-clause-lines : goal.move_others-requires-clause-lines
move_others-requires-clause-lines c i h = lines (goal.at.move_others-requires-clause-lines c).After-set_turned i no_line h

pub move_others-requires-clause-narrow : goal.move_others-requires-clause-narrow
move_others-requires-clause-narrow c i h n =
    let e = same (goal.at.move_others-requires-clause-narrow c).After-set_turned in
    let t = turned (get_or c.args.lines.now c.args.row no_line) c.args.column in
    let none : is_none (pivoted_from 0 (turned (get_or c.args.lines.now c.args.row no_line) c.args.column) c.args.row c.args.column c.args.lines.now) ≡ false = ap (λ x. is_none (pivoted_from 0 x c.args.row c.args.column c.args.lines.now)) (sym e)
    ∙ (ap (λ ls. is_none (pivoted_from 0 c.set_turned.new.self c.args.row c.args.column ls)) (sym c.as_slice.ensures) ∙ (sym c.some_is_wide.ensures ∙ c.if-some_is_wide.false)) in
    subst (λ x. moved_wide x c.args.column (get_or c.args.lines.now i no_line) ≡ false) (sym e) (narrow_others t c.args.row c.args.column c.args.lines.now i none h n)

pub returns-clause-gives : goal.returns-clause-gives
returns-clause-gives c =
    let old : List Line = c.args.lines.now in
    let new : List Line = c.swap_in.new.self in
    let t : Line = turned (get_or c.args.lines.now c.args.row no_line) c.args.column in
    let e = same (goal.at.returns-clause-gives c).After-set_turned in
    let m = c.move_others.ensures.count in
    let here : get_or c.swap_in.new.self c.args.row no_line ≡ turned (get_or c.args.lines.now c.args.row no_line) c.args.column = ap (λ ls. get_or ls c.args.row no_line) c.swap_in.ensures.inside ∙ (get_or-set_same c.move_others.new.lines c.args.row c.set_turned.new.self no_line (subst (λ n. c.args.row < n) (sym m) c.requires.row) ∙ e) in
    pivots_back 0 t c.args.row c.args.column old new
    (ap length c.swap_in.ensures.inside ∙ (length-set c.move_others.new.lines c.args.row c.set_turned.new.self ∙ m))
    (λ i h q. let z : i ≡ c.args.row = omega arith in ap (λ n. get_or c.swap_in.new.self n no_line) z ∙ here)
    (λ i h q. let n : i ≢ c.args.row = λ z. q (omega arith) in
    let after : get_or c.swap_in.new.self i no_line ≡ get_or c.move_others.new.lines i no_line = ap (λ ls. get_or ls i no_line) c.swap_in.ensures.inside ∙ get_or-set_other c.move_others.new.lines c.args.row i c.set_turned.new.self no_line n in
    ap (λ x. moved x c.args.column (get_or c.args.lines.now i no_line)) (sym e) ∙ (c.move_others.ensures.others i h n ∙ ap Some (sym after)))

pub returns-clause-table : goal.returns-clause-table
returns-clause-table c =
    let k = (goal.at.returns-clause-table c).After-set_turned in
    let w : ℕ = length c.set_turned.new.self.cells in
    table_after w c.args.row c.args.column c.move_others.new.index c.args.lines.now c.move_others.new.lines c.swap_in.new.self c.set_turned.new.self c.swap_in.new.value c.move_others.new.spare c.requires.row c.move_others.ensures.count c.move_others.ensures.row c.move_others.ensures.index (same k) c.swap_in.ensures.inside c.swap_in.ensures.outside (column k) (sym (width k)) c.requires.nonzero (c.requires.lines c.args.row no_line c.requires.row).positive c.move_others.ensures.spare c.move_others.ensures.widths

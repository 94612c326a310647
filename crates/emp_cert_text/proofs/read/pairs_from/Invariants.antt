use Rattle.std.proofs.Common.{◌≡◌, ◌++◌, ◌-◌, ◌≤◌, ℕ, List, length, drop, All}
use Rattle.emp_rows.specs.Points.{IsNumber}
use Rattle.emp_cert_text.specs.Text.{pairs_text}
use Rattle.emp_cert_text.specs.Course.{Part, pairs_before}
use Rattle.emp_cert_text.specs.Reading.{IsAt}
use Rattle.emp_cert_text.proofs.read.pairs_from.Given as goal

abbrev pub invariant-loop-done : goal.invariant-loop-done
invariant-loop-done l = record {
  text : drop l.fn.spot.at l.text ≡ pairs_text l.out ++ drop l.here.at l.text;
  within : l.here.at ≤ length l.text;
  count : length l.out ≡ l._done;
  first : All (λ (p : ℕ × ℕ). IsNumber l.sizes.quantities p.0) l.out;
  next : (ps : List Part) → IsAt l.text (pairs_before l.sizes.pairs l.sizes.quantities ps) l.fn.spot → IsAt l.text (pairs_before (l.sizes.pairs - l._done) l.sizes.quantities ps) l.here;
  second : All (λ (p : ℕ × ℕ). IsNumber l.sizes.quantities p.1) l.out;
}

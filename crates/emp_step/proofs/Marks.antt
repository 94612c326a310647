-- Marks by the index of a label.
use Rattle.std.proofs.Common.{◌≡◌, ◌≢◌, ℕ, ◌+◌, ◌-◌, ◌<◌, ◌≤◌, cond, nat_lt, nat_le, length, get_or, arith, refl, sym, ap, ◌∙◌}
use Rattle.std.proofs.Math.Nat.{add-sub_cancel_left}
use Rattle.std.proofs.lemmas.Bool.{lt-ltb, le-ltb, ltb-true, and_parts, leb-true}
use Rattle.std.proofs.lemmas.List.{get_or_past}
use Rattle.emp_turns.specs.Choice.{Free, Unasked as unasked, Required as required, Fixed as fixed, Mark as TurnMark}
use Rattle.emp_dict.specs.declared.label.Label.{Label}
use Rattle.emp_dict.specs.declared.label.Label.TheVariants.{Base, Quantity, Objective}
use Rattle.emp_dict.specs.declared.label.Mark.{Mark}
use Rattle.emp_dict.specs.declared.label.Mark.TheVariants.{Unasked, Required, Fixed}
use Rattle.emp_dict.specs.Dictionary.{Dictionary, IsLabel, mark_at}
use Rattle.emp_dict.specs.Chosen.{index_in, turn_mark, mark_by_index}
use Rattle.emp_step.specs.Steps.{mark_of_label}

pub mark_index : (d : Dictionary) (q : ℕ) → mark_by_index d (length d.columns + q) ≡ turn_mark (get_or d.marks q Unasked)
mark_index d q =
    ap (λ b. cond b Free (turn_mark (get_or d.marks (length d.columns + q - length d.columns) Unasked))) (le-ltb (length d.columns + q) (length d.columns) (omega arith))
    ∙ ap (λ n. turn_mark (get_or d.marks n Unasked)) (add-sub_cancel_left (length d.columns) q)

pub mark_quantity : (d : Dictionary) (k : ℕ) → mark_by_index d (index_in d (Quantity k)) ≡ turn_mark (mark_at d k)
mark_quantity d k = mark_index d (k - 1)

pub mark_objective : (d : Dictionary) → mark_by_index d (index_in d Objective) ≡ unasked
mark_objective d = mark_index d (length d.marks) ∙ ap turn_mark (get_or_past d.marks (length d.marks) Unasked (omega arith))

pub mark_base : (d : Dictionary) (b : ℕ) → 0 < b → b ≤ length d.columns → mark_by_index d (index_in d (Base b)) ≡ Free
mark_base d b h k = ap (λ c. cond c Free (turn_mark (get_or d.marks (b - 1 - length d.columns) Unasked))) (lt-ltb (b - 1) (length d.columns) (omega arith))

-- ---- a label that its dictionary has
pub base_of : (n q r b : ℕ) → IsLabel n q r (Base b) → (0 < b) × (b ≤ n)
base_of n q r b h = let p = and_parts (nat_lt 0 b) (nat_le b n) h in (ltb-true 0 b p.0, leb-true b n p.1)

pub quantity_of : (n q r k : ℕ) → IsLabel n q r (Quantity k) → (0 < k) × (k ≤ q)
quantity_of n q r k h = let p = and_parts (nat_lt 0 k) (nat_le k q) h in (ltb-true 0 k p.0, leb-true k q p.1)

pub objective_of : (n q r : ℕ) → IsLabel n q r Objective → q < r
objective_of n q r h = ltb-true q r h

-- the mark of the label's index is that of the label, but for a base variable
pub mark_is : (d : Dictionary) (w : Label) (m : TurnMark) → IsLabel (length d.columns) (length d.marks) (length d.rows) w → mark_by_index d (index_in d w) ≡ m → m ≢ Free → m ≢ unasked → m ≡ turn_mark (mark_of_label d w)
mark_is d (Base b) m h e nf nu = let p = base_of (length d.columns) (length d.marks) (length d.rows) b h in absurd (nf (sym e ∙ mark_base d b p.0 p.1))
mark_is d (Quantity k) m h e nf nu = sym e ∙ mark_quantity d k
mark_is d Objective m h e nf nu = absurd (nu (sym e ∙ mark_objective d))

turn_required : (m : Mark) → required ≡ turn_mark m → m ≡ Required
turn_required Unasked e = absurd (cc)
turn_required Required e = refl
turn_required Fixed e = absurd (cc)

turn_fixed : (m : Mark) → fixed ≡ turn_mark m → m ≡ Fixed
turn_fixed Unasked e = absurd (cc)
turn_fixed Required e = absurd (cc)
turn_fixed Fixed e = refl

pub is_quantity_of_mark : (d : Dictionary) (w : Label) → mark_of_label d w ≢ Unasked → (k : ℕ) × (w ≡ Quantity k)
is_quantity_of_mark d (Base b) h = absurd (h refl)
is_quantity_of_mark d (Quantity k) h = (k, refl)
is_quantity_of_mark d Objective h = absurd (h refl)

pub record MarkedRow (d : Dictionary) (w : Label) (m : Mark) : Type 0 where
  pub number : ℕ
  pub label : w ≡ Quantity number
  pub mark : mark_at d number ≡ m

pub required_label : (d : Dictionary) (w : Label) → IsLabel (length d.columns) (length d.marks) (length d.rows) w → mark_by_index d (index_in d w) ≡ required → MarkedRow d w Required
required_label d w h e =
    let m : mark_of_label d w ≡ Required = turn_required (mark_of_label d w) (mark_is d w required h e (λ z. absurd (cc)) (λ z. absurd (cc))) in
    let q = is_quantity_of_mark d w (λ z. let t : Unasked ≡ Required = sym z ∙ m in absurd (cc)) in
    record { number = q.0; label = q.1; mark = sym (ap (mark_of_label d) q.1) ∙ m }

-- the mark of a label as an index has it, where it is Fixed
pub fixed_index : (d : Dictionary) (w : Label) → mark_of_label d w ≡ Fixed → mark_by_index d (index_in d w) ≡ fixed
fixed_index d (Base b) e = absurd (cc)
fixed_index d (Quantity k) e = mark_quantity d k ∙ ap turn_mark e
fixed_index d Objective e = absurd (cc)

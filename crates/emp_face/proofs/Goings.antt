-- A step that goes on, turn by turn.
use Rattle.std.proofs.Common.{◌≡◌, ℕ, suc, ◌+◌, ◌<◌, length, Some, Result, Ok, Err, sym, ap, subst, ◌∙◌, arith}
use Rattle.emp_dict.specs.declared.label.Mark.{Mark}
use Rattle.emp_dict.specs.Dictionary.{Dictionary, IsSound, exchanged}
use Rattle.emp_step.specs.declared.outcome.Outcome.{Outcome}
use Rattle.emp_step.specs.declared.outcome.StepFault.{StepFault}
use Rattle.emp_step.specs.declared.outcome.StepFault.TheVariants.{Wide, Spent}
use Rattle.emp_step.specs.Steps.{Stepped, StepGives, turn, with_mark, first_loose, is_loose, lesser}
use Rattle.emp_step.specs.Levels.{IsLevel}
use Rattle.emp_step.proofs.Given.{PivotFits}
use Rattle.emp_step.proofs.Repeats.{by_look}
use Rattle.emp_step.proofs.After.{after_is, rows_count}
use Rattle.emp_step.proofs.Kept.{InStep, in_step}
use Rattle.emp_step.proofs.Turns.{raise_keeps, fix_keeps, best_keeps, raise_fits, fix_fits, best_fits}
use Rattle.emp_face.specs.declared.look.Task.{Task}
use Rattle.emp_face.specs.declared.look.Task.TheVariants.{Raise, Fix, Least}
use Rattle.emp_face.specs.declared.look.Next.{Next}
use Rattle.emp_face.specs.declared.look.Next.TheVariants.{Turn}
use Rattle.emp_face.specs.Runs.{look_of, CanLook, TaskFits, looks}

-- the quantity that a step asks for
abbrev pub asked : Task → ℕ
asked (Raise k) = k
asked (Fix k) = k
asked Least = 0

-- what is so between two turns
pub record Going (t : Task) (d : Dictionary) : Type 0 where
  pub step : InStep (asked t) d
  pub can : CanLook t d

pub going : (t : Task) (d : Dictionary) → IsSound d → IsLevel d → TaskFits t d → Going t d
going (Raise k) d s l f = record { step = in_step k d s l; can = tt }
going (Fix k) d s l f = record { step = in_step k d s l; can = tt }
going Least d s l f = record { step = in_step 0 d s l; can = f }

-- the pivot that is next can be made
pub going_fits : (t : Task) (d : Dictionary) (r j : ℕ) → Going t d → looks t d ≡ turn r j → PivotFits d r j
going_fits (Raise k) d r j g h = raise_fits k d r j g.step.sound h
going_fits (Fix k) d r j g h = fix_fits k d r j g.step.sound h
going_fits Least d r j g h = best_fits d r j g.step.sound g.can h

-- and what is so before it is so after it
pub going_on : (t : Task) (d e : Dictionary) (r j : ℕ) → Going t d → looks t d ≡ turn r j → exchanged d r j ≡ Some e → Going t e
going_on (Raise k) d e r j g h x = record { step = raise_keeps k d e g.step (ap (by_look d) h ∙ x); can = tt }
going_on (Fix k) d e r j g h x = record { step = fix_keeps k d e g.step (ap (by_look d) h ∙ x); can = tt }
going_on Least d e r j g h x =
    let a = after_is d e r j x in
    let rows = rows_count d e r j a in
    let marks : length e.marks ≡ length d.marks = ap length a.marks in
    let there = g.can in
    record { step = best_keeps 0 d e g.step g.can (ap (by_look d) h ∙ x); can = let k : length e.marks < length e.rows = omega arith in k }

pub marks_on : (d e : Dictionary) (r j : ℕ) → exchanged d r j ≡ Some e → e.marks ≡ d.marks
marks_on d e r j x = (after_is d e r j x).marks

-- one more column
pub loose_next : (d : Dictionary) (r j : ℕ) → lesser d j (is_loose d r j) (first_loose d r j) ≡ first_loose d r (j + 1)
loose_next d r j = let e : suc j ≡ j + 1 = omega arith in ap (first_loose d r) e

-- what a step leaves is level, where what its definition leaves is
pub step_level : (s : Stepped) (d : Dictionary) (n : ℕ) (r : Result Outcome StepFault) → StepGives s d n r → IsLevel s.dictionary → IsLevel d
step_level s d n (Ok o) h l = subst (λ (x : Stepped). IsLevel x.dictionary) h l
step_level s d n (Err Wide) h l = subst (λ (x : Stepped). IsLevel x.dictionary) h l
step_level s d n (Err Spent) h l = subst (λ (x : Stepped). IsLevel x.dictionary) h l

pub fault_level : (k : ℕ) (m : Mark) (s : Stepped) (d : Dictionary) (n : ℕ) (f : StepFault) → StepGives s d n (Err f) → IsLevel (with_mark k m s).dictionary → IsLevel d
fault_level k m s d n Wide h l = subst (λ x. IsLevel (with_mark k m x).dictionary) h l
fault_level k m s d n Spent h l = subst (λ x. IsLevel (with_mark k m x).dictionary) h l

-- what was looked up and is a pivot can be made
pub looked_fits : (t : Task) (d : Dictionary) (r j : ℕ) (n : Next) → Going t d → look_of n ≡ looks t d → n ≡ Turn r j → PivotFits d r j
looked_fits t d r j n g h q = going_fits t d r j g (sym h ∙ ap look_of q)

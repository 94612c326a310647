-- What a way back asks and gives.
use Rattle.std.specs.Prelude.{ℕ, ◌≡◌, Option, Some, None, Result, Ok, Err}
use Rattle.emp_num.specs.Point.{Point}
use Rattle.emp_reform.specs.declared.fault.BackFault.{BackFault}
use Rattle.emp_reform.specs.declared.fault.BackFault.TheVariants.{NoMemory, Wide}

-- the run-time point stands for a point that fits
pub record FitsAt {P : Type 0} (stands : P → Point → Type 0) (fits : Point → Type 0) (x : P) : Type 0 where
  pub point : Point
  pub stood_for : stands x point
  pub fitting : fits point

-- the answer stands for p, or tells the first coordinate that is wide, or there was no memory
abbrev pub BackGives : {P : Type 0} → (P → Point → Type 0) → Point → Option ℕ → Result P BackFault → Type 0
BackGives stands p w (Ok x) = stands x p × (w ≡ None)
BackGives stands p w (Err NoMemory) = Unit {0}
BackGives stands p w (Err (Wide k)) = w ≡ Some k

-- the first of the two that is there
abbrev pub first_some : Option ℕ → Option ℕ → Option ℕ
first_some None w = w
first_some (Some k) w = Some k

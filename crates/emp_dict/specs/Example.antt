-- Worked examples.
use Rattle.std.specs.Prelude.{◌≡◌, ℤ, pos, negsuc, true, [], ◌∷◌, List, None, Some}
use Rattle.emp_line.specs.declared.line.Line.{Line}
use Rattle.emp_rows.specs.declared.affine.Affine.{Affine}
use Rattle.emp_dict.specs.declared.label.Label.{Label}
use Rattle.emp_dict.specs.declared.label.Label.TheVariants.{Base, Quantity, Objective}
use Rattle.emp_dict.specs.declared.label.Mark.{Mark}
use Rattle.emp_dict.specs.declared.label.Mark.TheVariants.{Unasked, Required}
use Rattle.emp_dict.specs.declared.label.Aim.TheVariants.{Up, Least}
use Rattle.emp_dict.specs.declared.label.Choice.TheVariants.{Stop, Exchange, Ray}
use Rattle.emp_dict.specs.Dictionary.{Dictionary, exchanged, started}
use Rattle.emp_dict.specs.Chosen.{chosen}

abbrev pub affine : ℤ → List ℤ → Affine
affine c cells = record { constant = c; cells = cells }

abbrev pub line : ℤ → ℤ → List ℤ → Line
line d c cells = record { denom = d; constant = c; cells = cells }

abbrev pub dictionary : List Line → List Label → List Label → List Mark → Dictionary
dictionary lines rows columns marks = record { lines = lines; rows = rows; columns = columns; marks = marks }

-- the quantities `-6 + 2 x + 4 y` and `x - y`, and the objective `x`
abbrev pub first : Dictionary
first = dictionary (line (pos 1) (negsuc 5) (pos 2 ∷ pos 4 ∷ []) ∷ line (pos 1) (pos 0) (pos 1 ∷ negsuc 0 ∷ []) ∷ line (pos 1) (pos 0) (pos 1 ∷ pos 0 ∷ []) ∷ []) (Quantity 1 ∷ Quantity 2 ∷ Objective ∷ []) (Base 1 ∷ Base 2 ∷ []) (Unasked ∷ Unasked ∷ [])

-- solved for y: `4 y = 6 - 2 x + v`, `4 u = -6 + 6 x - v`, and x does not change
abbrev pub second : Dictionary
second = dictionary (line (pos 4) (pos 6) (negsuc 1 ∷ pos 1 ∷ []) ∷ line (pos 4) (negsuc 5) (pos 6 ∷ negsuc 0 ∷ []) ∷ line (pos 1) (pos 0) (pos 1 ∷ pos 0 ∷ []) ∷ []) (Base 2 ∷ Quantity 2 ∷ Objective ∷ []) (Base 1 ∷ Quantity 1 ∷ []) (Unasked ∷ Unasked ∷ [])

-- `2 v = 1 + x` and `2 u = 1 + x`: solved for x, the second row is `2 u = 2 v`, which is divided by 2
abbrev pub common : Dictionary
common = dictionary (line (pos 2) (pos 1) (pos 1 ∷ []) ∷ line (pos 2) (pos 1) (pos 1 ∷ []) ∷ []) (Quantity 1 ∷ Quantity 2 ∷ []) (Base 1 ∷ []) (Unasked ∷ Unasked ∷ [])

abbrev pub divided : Dictionary
divided = dictionary (line (pos 1) (negsuc 0) (pos 2 ∷ []) ∷ line (pos 1) (pos 0) (pos 1 ∷ []) ∷ []) (Base 1 ∷ Quantity 2 ∷ []) (Quantity 1 ∷ []) (Unasked ∷ Unasked ∷ [])

-- `big x + y` and `x + big y`
abbrev pub large : ℤ → Dictionary
large big = dictionary (line (pos 1) (pos 0) (big ∷ pos 1 ∷ []) ∷ line (pos 1) (pos 0) (pos 1 ∷ big ∷ []) ∷ []) (Quantity 1 ∷ Quantity 2 ∷ []) (Base 1 ∷ Base 2 ∷ []) (Unasked ∷ Unasked ∷ [])

-- solved for x, with 10^18 for big: a number of 36 digits is no reason to stop
abbrev pub larger : Dictionary
larger = dictionary (line (pos 1000000000000000000) (pos 0) (pos 1 ∷ negsuc 0 ∷ []) ∷ line (pos 1000000000000000000) (pos 0) (pos 1 ∷ pos 999999999999999999999999999999999999 ∷ []) ∷ []) (Base 1 ∷ Quantity 2 ∷ []) (Quantity 1 ∷ Base 2 ∷ []) (Unasked ∷ Unasked ∷ [])

-- `-9 + x + y` is to be raised; `7 - 2 x` and `10 - 3 x` are Required, and of `2 - x` nothing is asked
abbrev pub choices : Mark → Dictionary
choices m = dictionary (line (pos 1) (negsuc 8) (pos 1 ∷ pos 1 ∷ []) ∷ line (pos 1) (pos 7) (negsuc 1 ∷ pos 0 ∷ []) ∷ line (pos 1) (pos 2) (negsuc 0 ∷ pos 0 ∷ []) ∷ line (pos 1) (pos 10) (negsuc 2 ∷ pos 0 ∷ []) ∷ []) (Quantity 1 ∷ Quantity 2 ∷ Quantity 3 ∷ Quantity 4 ∷ []) (Base 1 ∷ Base 2 ∷ []) (Unasked ∷ Required ∷ m ∷ Required ∷ [])

-- the objective `-x`, with the quantity `3 - x`
abbrev pub falling : Mark → Dictionary
falling m = dictionary (line (pos 1) (pos 3) (negsuc 0 ∷ []) ∷ line (pos 1) (pos 0) (negsuc 0 ∷ []) ∷ []) (Quantity 1 ∷ Objective ∷ []) (Base 1 ∷ []) (m ∷ [])

pub record ExampleDictionaries : Type 0 where
  pub starts : started 2 (affine (negsuc 5) (pos 2 ∷ pos 4 ∷ []) ∷ affine (pos 0) (pos 1 ∷ negsuc 0 ∷ []) ∷ []) (Some (affine (pos 0) (pos 1 ∷ pos 0 ∷ []))) ≡ first
  pub exchanges : exchanged first 0 1 ≡ Some second
  -- a row is divided by what its numbers have in common
  pub divides : exchanged common 0 0 ≡ Some divided
  -- past 2^126 a number is wide, and not before
  pub narrow : exchanged (large (pos 1000000000000000000)) 0 0 ≡ Some larger
  pub wide : exchanged (large (pos 10000000000000000000)) 0 0 ≡ None
  pub wide_next : exchanged larger 1 1 ≡ None
  -- the column of least index moves; 10 over 3 is less than 7 over 2, and a quantity of which nothing is asked stops nothing
  pub chooses : chosen (choices Unasked) (Up 0) ≡ Exchange 3 0
  pub stopped : chosen (choices Required) (Up 0) ≡ Exchange 2 0
  -- a quantity that moves with no column
  pub nothing : chosen (dictionary (line (pos 1) (negsuc 0) (pos 0 ∷ []) ∷ []) (Quantity 1 ∷ []) (Base 1 ∷ []) (Unasked ∷ [])) (Up 0) ≡ Stop
  -- the objective falls along x until a Required quantity stops it
  pub falls : chosen (falling Required) Least ≡ Exchange 0 0
  pub goes_on : chosen (falling Unasked) Least ≡ Ray 0 true

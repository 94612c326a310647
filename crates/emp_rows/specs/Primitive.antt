-- A quantity of whole numbers from an affine function with fractions: over a common denominator, and divided by what all
-- its numbers have in common. It is none where a number that is formed on the way is wide.
use Rattle.std.specs.Prelude.{◌≡◌, ◌↔◌, ℤ, pos, ◌*ℤ◌, ◌<ℤ◌, cond, unsigned_abs, int_div, List, [], ◌∷◌, Option, Some, None, option_and_then, Result, Ok, Err}
use Rattle.emp_num.specs.Gcd.{gcd_of}
use Rattle.emp_num.specs.Point.{Point}
use Rattle.emp_num.specs.Ratio.{Ratio, ratio, plus, times}
use Rattle.emp_num.specs.declared.frac.Frac.{Frac}
use Rattle.emp_rows.specs.declared.affine.Affine.{Affine}
use Rattle.emp_rows.specs.declared.primitive.RowFault.{RowFault}
use Rattle.emp_rows.specs.declared.primitive.RowFault.TheVariants.{Wide, NoMemory}
use Rattle.emp_rows.specs.Affine.{primitive_of}
use Rattle.emp_rows.specs.RowPoints.{value_at}
use Rattle.emp_rows.specs.Values.{is_narrow, ratio_of}

abbrev pub narrowed : ℤ → Option ℤ
narrowed z = cond (is_narrow z) (Some z) None

-- the least common multiple of l and d: l over their greatest common divisor, times d
abbrev pub joint : ℤ → ℤ → ℤ
joint l d = int_div l (pos (gcd_of (unsigned_abs l) (unsigned_abs d))) *ℤ d

-- the least common multiple of l and the denominators, in their order
abbrev pub joint_from : ℤ → List Frac → Option ℤ
joint_from l [] = Some l
joint_from l (f ∷ fs) = option_and_then (λ m. joint_from m fs) (narrowed (joint l f.den))

-- of all coefficients and then of the constant
abbrev pub common_denominator : List Frac → Frac → Option ℤ
common_denominator cells constant = option_and_then (λ l. narrowed (joint l constant.den)) (joint_from (pos 1) cells)

-- the numerator over the common denominator l
abbrev pub numerator : ℤ → Frac → Option ℤ
numerator l f = narrowed (f.num *ℤ int_div l f.den)

abbrev pub numerators : ℤ → List Frac → Option (List ℤ)
numerators l [] = Some []
numerators l (f ∷ fs) = option_and_then (λ n. option_and_then (λ ns. Some (n ∷ ns)) (numerators l fs)) (numerator l f)

-- over the common denominator l, and divided by what all numbers have in common
abbrev pub made_over : List Frac → Frac → ℤ → Option Affine
made_over cells constant l = option_and_then (λ ns. option_and_then (λ n. Some (primitive_of ns n)) (numerator l constant)) (numerators l cells)

abbrev pub made : List Frac → Frac → Option Affine
made cells constant = option_and_then (made_over cells constant) (common_denominator cells constant)

-- what is formed, or why there is nothing: each outcome with what is so exactly there
abbrev pub FormedGives : {X : Type 0} → Option X → Result X RowFault → Type 0
FormedGives o (Ok x) = o ≡ Some x
FormedGives o (Err Wide) = o ≡ None
FormedGives o (Err NoMemory) = Unit {0}

-- ---- what it stands for
-- the sum of fraction times coordinate
abbrev pub weighted_sum : List Frac → ℤ → List ℤ → Ratio
weighted_sum [] d xs = ratio (pos 0) (pos 1)
weighted_sum (f ∷ fs) d [] = ratio (pos 0) (pos 1)
weighted_sum (f ∷ fs) d (x ∷ xs) = plus (times (ratio_of f) (ratio x d)) (weighted_sum fs d xs)

-- the value of the affine function with these fractions at a point
abbrev pub rational_value : List Frac → Frac → Point → Ratio
rational_value cells constant p = plus (ratio_of constant) (weighted_sum cells p.den p.nums)

-- the quantity is the function times top over bottom, at every point
pub record IsMultiple (r : Affine) (cells : List Frac) (constant : Frac) : Type 0 where
  pub top : ℤ
  pub bottom : ℤ
  pub top_positive : pos 0 <ℤ top
  pub bottom_positive : pos 0 <ℤ bottom
  pub equal : (p : Point) → value_at r p *ℤ (bottom *ℤ (rational_value cells constant p).bottom) ≡ (top *ℤ p.den) *ℤ (rational_value cells constant p).top

-- the quantity's value has the function's sign at every point
pub record HasSign (r : Affine) (cells : List Frac) (constant : Frac) : Type 0 where
  pub zero : (p : Point) → (value_at r p ≡ pos 0) ↔ ((rational_value cells constant p).top ≡ pos 0)
  pub above : (p : Point) → (pos 0 <ℤ value_at r p) ↔ (pos 0 <ℤ (rational_value cells constant p).top)

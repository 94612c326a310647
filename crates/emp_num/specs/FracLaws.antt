-- The laws of fractions that the layers above cite, as statements.
use Rattle.std.specs.Prelude.{◌≡◌, ◌⊎◌, ℤ, pos, ◌+ℤ◌, ◌*ℤ◌, ◌≤ℤ◌, ◌<ℤ◌}
use Rattle.std.specs.declared.cmp.Ordering.{Ordering}
use Rattle.emp_num.specs.FracSpec.{IsQuotient}
use Rattle.emp_num.specs.Orders.{IsOrder}
use Rattle.emp_num.specs.declared.frac.Frac.{Frac}

-- a is at most b, by the cross products
abbrev pub AtMost : Frac → Frac → Type 0
AtMost a b = (a.num *ℤ b.den) ≤ℤ (b.num *ℤ a.den)

-- how a stands to b
abbrev pub StandsTo : Ordering → Frac → Frac → Type 0
StandsTo o a b = IsOrder o (a.num *ℤ b.den) (b.num *ℤ a.den)

-- the order is total, and only a fraction itself is both at least and at most that fraction
pub record OrderIsTotal : Type 0 where
  pub total : (a b : Frac) → AtMost a b ⊎ AtMost b a
  pub goes_on : (a b c : Frac) → AtMost a b → AtMost b c → AtMost a c
  pub same : (a b : Frac) → AtMost a b → AtMost b a → a ≡ b
  pub one_answer : (o p : Ordering) (a b : Frac) → StandsTo o a b → StandsTo p a b → o ≡ p

-- fractions that are equal as numbers are one value, and so have the same two numbers
pub record EqualAreSame : Type 0 where
  pub cross : (a b : Frac) → a.num *ℤ b.den ≡ b.num *ℤ a.den → a ≡ b
  pub numbers : (a b : Frac) → a.num ≡ b.num → a.den ≡ b.den → a ≡ b
  pub one_value : (n d : ℤ) (r s : Frac) → pos 0 <ℤ d → IsQuotient r n d → IsQuotient s n d → r ≡ s

-- a fraction has the sign of each quotient that it is, over a number above 0
pub record SignsOfQuotients : Type 0 where
  pub not_below : (r : Frac) (n d : ℤ) → pos 0 <ℤ d → IsQuotient r n d → pos 0 ≤ℤ n → pos 0 ≤ℤ r.num
  pub above : (r : Frac) (n d : ℤ) → pos 0 <ℤ d → IsQuotient r n d → pos 0 <ℤ n → pos 0 <ℤ r.num
  pub below : (r : Frac) (n d : ℤ) → pos 0 <ℤ d → IsQuotient r n d → n <ℤ pos 0 → r.num <ℤ pos 0
  pub none : (r : Frac) (n d : ℤ) → pos 0 <ℤ d → IsQuotient r n d → n ≡ pos 0 → r.num ≡ pos 0

-- signs of sums and products
pub record SignsOfResults : Type 0 where
  pub sum : (a b r : Frac) → IsQuotient r (a.num *ℤ b.den +ℤ b.num *ℤ a.den) (a.den *ℤ b.den) → pos 0 ≤ℤ a.num → pos 0 ≤ℤ b.num → pos 0 ≤ℤ r.num
  pub sum_above : (a b r : Frac) → IsQuotient r (a.num *ℤ b.den +ℤ b.num *ℤ a.den) (a.den *ℤ b.den) → pos 0 <ℤ a.num → pos 0 ≤ℤ b.num → pos 0 <ℤ r.num
  pub product : (a b r : Frac) → IsQuotient r (a.num *ℤ b.num) (a.den *ℤ b.den) → pos 0 ≤ℤ a.num → pos 0 ≤ℤ b.num → pos 0 ≤ℤ r.num
  pub product_above : (a b r : Frac) → IsQuotient r (a.num *ℤ b.num) (a.den *ℤ b.den) → pos 0 <ℤ a.num → pos 0 <ℤ b.num → pos 0 <ℤ r.num
  pub product_below : (a b r : Frac) → IsQuotient r (a.num *ℤ b.num) (a.den *ℤ b.den) → a.num <ℤ pos 0 → pos 0 <ℤ b.num → r.num <ℤ pos 0

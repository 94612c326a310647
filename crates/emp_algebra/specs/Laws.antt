-- The laws that the layers above cite, as statements.
use Rattle.std.specs.Prelude.{◌≡◌, ℤ, pos, ◌+ℤ◌, ◌*ℤ◌, ◌≤ℤ◌, ◌<ℤ◌, List}
use Rattle.emp_algebra.specs.Vector.{dot, scale, add_rows}

-- the dot product is linear in its first list
pub record DotIsLinear : Type 0 where
  pub scaled : (k : ℤ) (r xs : List ℤ) → dot (scale k r) xs ≡ k *ℤ dot r xs
  pub added : (r s xs : List ℤ) → dot (add_rows r s) xs ≡ dot r xs +ℤ dot s xs

-- the order goes with products by a number above 0
pub record OrderKeepsProducts : Type 0 where
  pub at_most : (a b c : ℤ) → a ≤ℤ b → pos 0 ≤ℤ c → (a *ℤ c) ≤ℤ (b *ℤ c)
  pub below : (a b c : ℤ) → a <ℤ b → pos 0 <ℤ c → (a *ℤ c) <ℤ (b *ℤ c)
  pub cancels : (a b c : ℤ) → a *ℤ c ≡ b *ℤ c → pos 0 <ℤ c → a ≡ b

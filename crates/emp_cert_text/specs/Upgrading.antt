-- A certificate that comes to name its pairs.
use Rattle.std.specs.Prelude.{◌≡◌, ℕ, List, Some}
use Rattle.emp_cert.specs.declared.cert.Cert.{Cert}

-- the certificate d is c with these pairs named
pub record IsUpgrade (c : Cert) (pairs : List (ℕ × ℕ)) (d : Cert) : Type 0 where
  pub base : d.base ≡ c.base
  pub quantities : d.quantities ≡ c.quantities
  pub count : d.pairs ≡ c.pairs
  pub links : d.links ≡ Some pairs
  pub verdict : d.verdict ≡ c.verdict

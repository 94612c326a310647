-- The pairs that an upgraded certificate names fit its counts.
use Rattle.std.proofs.Common.{◌≡◌, ℕ, List, length, All, Some, subst}
use Rattle.emp_rows.specs.Points.{IsNumber}
use Rattle.emp_cert.specs.Certs.{LinksFit}

pub links_fit : (quantities pairs : ℕ) (links qs ps : List (ℕ × ℕ)) → links ≡ qs → pairs ≡ length qs → All (λ (p : ℕ × ℕ). IsNumber quantities p.0) qs → All (λ (p : ℕ × ℕ). IsNumber quantities p.1) qs → Some links ≡ Some ps → LinksFit quantities pairs ps
links_fit quantities pairs links qs ps e n h k f =
    let g : qs ≡ ps = cc in
    subst (λ (xs : List (ℕ × ℕ)). LinksFit quantities pairs xs) g (record { count = let m : length qs ≡ pairs = cc in m; first = h; second = k })

pub ruleset upgrading = (links_fit)

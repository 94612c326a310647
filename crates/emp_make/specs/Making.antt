-- What making a market gives.
use Rattle.std.specs.Prelude.{ℕ, ◌≤◌, Result, Ok, Err}
use Rattle.emp_ast.specs.declared.model.Model.{Model}
use Rattle.emp_ast.specs.declared.annot.Annot.{Annot}
use Rattle.emp_make.specs.declared.fault.MakeFault.{MakeFault}
use Rattle.emp_make.specs.declared.fault.MakeFault.TheVariants.{Firms, NoMemory}
use Rattle.emp_make.specs.Markets.{IsMarket}

-- a market has from 2 to 40 firms
abbrev pub IsCountOfFirms : ℕ → Type 0
IsCountOfFirms firms = (2 ≤ firms) × (firms ≤ 40)

-- the market of the seed exactly where it can have so many firms
abbrev pub MakeGives : ℕ → ℕ → Result (Model × Annot) MakeFault → Type 0
MakeGives seed firms (Ok r) = IsCountOfFirms firms × IsMarket seed firms r.0 r.1
MakeGives seed firms (Err Firms) = IsCountOfFirms firms → ⊥
MakeGives seed firms (Err NoMemory) = IsCountOfFirms firms

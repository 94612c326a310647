-- What the type of row systems keeps, as the proofs of the checker use it.
use Rattle.std.proofs.Common.{◌≡◌, ◌≤◌, length, All, Some}
use Rattle.emp_rows.specs.declared.affine.Affine.{Affine}
use Rattle.emp_rows.specs.declared.system.RowSystem.{RowSystem}
use Rattle.emp_rows.specs.Affine.{IsRow}
use Rattle.emp_rows.proofs.Pairs.{few_pairs}

pub record IsSystem (s : RowSystem) : Type 0 where
  pub kinds : length s.kinds ≡ length s.quantities
  pub rows : All (IsRow s.base) s.quantities
  pub few : length s.pairs ≤ 256
  pub objective : (r : Affine) → s.objective ≡ Some r → IsRow s.base r

pub keeps : (s : RowSystem) → IsSystem s
keeps s = record { kinds = s.sound.one_kind_each; rows = s.sound.rows; few = few_pairs s; objective = s.sound.objective_row }

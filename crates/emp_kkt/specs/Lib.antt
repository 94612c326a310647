-- What a caller relies on
pub mod Items
pub mod Cells
pub mod Gives
-- What only helps proofs
pub mod Making

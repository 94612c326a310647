-- What a caller relies on
pub mod Markets
pub mod Making
-- Laws
pub mod Laws
-- What only helps proofs
pub mod Parts

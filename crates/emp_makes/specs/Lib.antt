-- What a caller relies on
pub mod Makes
-- Laws
pub mod Laws
-- What only helps proofs
pub mod Making

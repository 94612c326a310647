-- What a caller relies on
pub mod Share
-- Laws
pub mod Laws
-- What only helps proofs
pub mod Steps

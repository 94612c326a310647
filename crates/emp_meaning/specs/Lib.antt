-- Laws
pub mod Laws
-- What only helps proofs
pub mod Ties

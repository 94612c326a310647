-- What a caller relies on
pub mod Reads
-- Laws
pub mod Laws
pub mod Example
-- What only helps proofs
pub mod Rows

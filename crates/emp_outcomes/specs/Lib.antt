-- What a caller relies on
pub mod Outcomes
-- What only helps proofs
pub mod Steps

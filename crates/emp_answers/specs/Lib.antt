-- What a caller relies on
pub mod Answers
-- The numbers that texts name
pub mod Laws
-- What only helps proofs
pub mod Steps

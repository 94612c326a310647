-- What a caller relies on
pub mod Factors
pub mod Stands
pub mod Degrees
pub mod Steps
pub mod Joins
pub mod Expanding
-- What only helps proofs
pub mod Powers

-- What a caller relies on
pub mod Terms
pub mod Quads
pub mod Trees
pub mod Written
pub mod Gradient
pub mod Difference
-- Laws
pub mod Laws
-- What only helps proofs
pub mod Parts
pub mod Spread

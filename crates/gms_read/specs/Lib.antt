-- What a caller relies on
pub mod Expressions
pub mod Performing
pub mod Placed
pub mod Rules
pub mod Shapes
pub mod Sides
pub mod Texts
-- Laws
pub mod Laws
-- What only helps proofs
pub mod Steps

-- What a caller relies on
pub mod Table
pub mod Choice
pub mod Layout
pub mod Chooses
-- Laws
pub mod Laws
pub mod Example
-- What only helps proofs
pub mod Loop

-- What a caller relies on
pub mod Search
-- Laws
pub mod Shown
pub mod Example
-- What only helps proofs
pub mod Nodes

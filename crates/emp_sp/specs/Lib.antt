-- What a caller relies on
pub mod Outcomes
pub mod Equations
pub mod Plans
pub mod Scenes
-- Laws
pub mod Examples
-- What only helps proofs
pub mod Commons

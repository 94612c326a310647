-- What a caller relies on
pub mod Levels
pub mod Tests
pub mod Paths
pub mod Trees
pub mod Heads
pub mod Checks
-- Laws
pub mod Laws
-- What only helps proofs
pub mod Steps

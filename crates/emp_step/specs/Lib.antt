-- What a caller relies on
pub mod Steps
pub mod Levels
-- Laws
pub mod Laws
pub mod Example

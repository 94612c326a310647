-- What a caller relies on
pub mod Game
pub mod Solved
pub mod Conditions
-- Laws
pub mod Laws

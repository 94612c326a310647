-- What a caller relies on
pub mod Dictionary
pub mod Chosen
pub mod Dicts
pub mod Places
-- Laws
pub mod Laws
pub mod Example

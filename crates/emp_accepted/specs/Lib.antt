-- What a caller relies on
pub mod Accepted
-- Laws
pub mod Laws

-- What a caller relies on
pub mod Members
-- Laws
pub mod Laws

-- What a caller relies on
pub mod Vector
pub mod Deciding
-- Laws
pub mod Laws

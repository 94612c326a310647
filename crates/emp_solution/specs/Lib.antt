-- What a caller relies on
pub mod Stated
pub mod Tells
-- Laws
pub mod Laws

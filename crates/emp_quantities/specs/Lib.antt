-- What a caller relies on
pub mod System
pub mod Over
-- Laws
pub mod Laws

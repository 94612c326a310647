-- What a caller relies on
pub mod Layers
pub mod Image
-- Laws
pub mod Laws

-- What a caller relies on
pub mod Given
-- Laws
pub mod Convex

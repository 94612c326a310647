-- What a caller relies on
pub mod Pivot
pub mod Lines
pub mod Place
pub mod Sparse
pub mod Indexed
-- Laws
pub mod Example

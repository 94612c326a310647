-- What a caller relies on
pub mod Systems
pub mod Affine
pub mod RowPoints
pub mod Values
pub mod Holding
pub mod Points
pub mod Primitive

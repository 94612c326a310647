pub mod Laws
pub mod Ring
pub mod Order
pub mod Vectors
pub mod Deciding

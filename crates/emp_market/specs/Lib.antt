-- Laws
pub mod Laws

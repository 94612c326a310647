-- Laws
pub mod Whole

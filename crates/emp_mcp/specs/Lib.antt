pub mod Complementary
pub mod Faults
pub mod Block
pub mod Target
pub mod Members
pub mod Laws

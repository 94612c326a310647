pub mod Over
pub mod Numbering
pub mod Reforms
pub mod Weights

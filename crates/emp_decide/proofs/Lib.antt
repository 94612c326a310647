pub mod Sums
pub mod Factors
pub mod Rows
pub mod Decides
pub mod Points
pub mod Reading

pub mod Sums
pub mod Splits
pub mod Working
pub mod Counting

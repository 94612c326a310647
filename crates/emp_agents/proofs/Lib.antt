pub mod Terms
pub mod Values
pub mod Given
pub mod Sums
pub mod Convex

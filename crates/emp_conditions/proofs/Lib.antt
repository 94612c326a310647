pub mod Values
pub mod Ranges
pub mod Sound
pub mod Distinct
pub mod Lifting
pub mod Examples

pub mod Fit
pub mod Rows
pub mod Tells
pub mod Back

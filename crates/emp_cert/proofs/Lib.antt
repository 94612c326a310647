pub mod Forests
pub mod Rays
pub mod Shown

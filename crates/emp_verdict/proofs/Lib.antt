pub mod Scaled
pub mod Places
pub mod Rows
pub mod Verdicts
pub mod Rays
pub mod Meaning

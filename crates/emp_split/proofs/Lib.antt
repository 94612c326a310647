pub mod Each
pub mod Places
pub mod Scaling
pub mod Complete
pub mod Lifting
pub mod Reforms

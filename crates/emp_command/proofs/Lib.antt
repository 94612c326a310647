pub mod Wording
pub mod Telling
pub mod Loading
pub mod Texts
pub mod Storing
pub mod Delivering
pub mod OneRequest

pub mod Splits
pub mod Meeting
pub mod Scenes
pub mod Small

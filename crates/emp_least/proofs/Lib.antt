pub mod Lines
pub mod Flat
pub mod Levels
pub mod Fixed
pub mod Down
pub mod TwoSystems
pub mod Small

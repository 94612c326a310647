pub mod Labels
pub mod Soundness
pub mod Choosing
pub mod Built
pub mod Starts
pub mod Layouts
pub mod Solutions

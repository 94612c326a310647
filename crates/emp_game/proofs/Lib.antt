pub mod Numbers
pub mod Slopes
pub mod Sound
pub mod Level
pub mod Multiplied

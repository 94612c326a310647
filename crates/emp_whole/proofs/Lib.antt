pub mod Multiples
pub mod Games

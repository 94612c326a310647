pub mod Oks
pub mod Refusing
pub mod Solving
pub mod Certifying

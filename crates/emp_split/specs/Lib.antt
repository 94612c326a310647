-- What a caller relies on
pub mod Games
pub mod Numbers
pub mod Meaning
-- Laws
pub mod Laws

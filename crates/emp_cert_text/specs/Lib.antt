-- What a caller relies on
pub mod Text
pub mod Writing
pub mod Upgrading
pub mod Words
pub mod Lines
pub mod Course
pub mod Reading
-- Laws
pub mod Laws

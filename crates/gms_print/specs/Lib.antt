-- What a caller relies on
pub mod Canonical
pub mod Decimals
pub mod Lines
pub mod Marks
pub mod ReadsBack

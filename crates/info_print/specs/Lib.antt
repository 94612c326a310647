-- What a caller relies on
pub mod Canonical
pub mod ReadsBack

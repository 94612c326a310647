-- What a caller relies on
pub mod Ends

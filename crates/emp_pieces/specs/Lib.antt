-- What a caller relies on
pub mod Walks
pub mod Lists

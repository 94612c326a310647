pub mod Wholes
pub mod Lists
pub mod Made
pub mod Ones

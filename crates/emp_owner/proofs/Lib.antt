pub mod Lists
pub mod NodeLeaves
pub mod Defining
pub mod Ruling
pub mod Owning
pub mod Tying

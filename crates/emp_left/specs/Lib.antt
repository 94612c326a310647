-- What a caller relies on
pub mod Left

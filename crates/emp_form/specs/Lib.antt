-- What a caller relies on
pub mod Form
pub mod Expansion
pub mod Calls
pub mod Wide
-- Laws
pub mod Laws
pub mod Partial

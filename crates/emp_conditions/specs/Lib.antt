-- What a caller relies on
pub mod Base
pub mod Rows
-- Laws
pub mod Laws
pub mod Examples

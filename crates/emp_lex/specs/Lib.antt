-- What a caller relies on
pub mod Bytes
pub mod DollarLines
pub mod Forms
pub mod Passed
pub mod Pieces
pub mod Tokens
pub mod Words
-- Laws
pub mod Laws

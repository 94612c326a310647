-- What a caller relies on
pub mod Least
pub mod Systems
-- Laws
pub mod Examples
-- What only helps proofs
pub mod Rows

-- What a caller relies on
pub mod Rules
pub mod Settled
-- What only helps proofs
pub mod NodeLeaves
pub mod Finding

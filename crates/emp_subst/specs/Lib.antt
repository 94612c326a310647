-- What a caller relies on
pub mod Subst
pub mod Fill
-- Laws
pub mod Keeps
-- What only helps proofs
pub mod Stages
pub mod Filling

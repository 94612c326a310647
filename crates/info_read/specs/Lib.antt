-- What a caller relies on
pub mod Lexemes
pub mod Grammar
pub mod Faults
pub mod Texts
-- Laws
pub mod Laws
pub mod Examples
-- What only helps proofs
pub mod Machine
pub mod Steps

-- What the layers above cite
pub mod Choice
pub mod Extended
pub mod Owned
pub mod Laws
pub mod Verdicts
pub mod Examples
-- What only helps proofs
pub mod Terms

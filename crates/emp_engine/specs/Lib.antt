-- What a caller relies on
pub mod Run
-- What is answered over texts is one outcome
pub mod Laws
-- What only helps proofs
pub mod Ends

-- What a caller relies on
pub mod Nodes
pub mod Paths
pub mod Deciders
pub mod Certs
pub mod Verdicts
-- Laws
pub mod Laws

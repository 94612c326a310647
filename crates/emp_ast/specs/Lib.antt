-- What a caller relies on
pub mod Expression
pub mod Value
pub mod Meets
pub mod Occurrence
pub mod Parties
pub mod Rivals
pub mod Solved
pub mod Multipliers
pub mod Equilibrium
pub mod Bilevel
pub mod Convex
pub mod Names
pub mod Nodes
-- Laws
pub mod Defines
pub mod SameLaws
-- What only helps proofs
pub mod Trees

-- What a caller relies on
pub mod Small
-- Laws
pub mod Points
pub mod Values
pub mod Parties
pub mod Rivals
pub mod Multipliers
pub mod Sharing
pub mod Bilevel
pub mod Rules
pub mod Complementary

-- What a caller relies on
pub mod Exact
pub mod FracSpec
pub mod Gcd
pub mod Ratio
pub mod Point
pub mod Whole
pub mod Orders
pub mod Opposite
pub mod SamePoint
-- Laws
pub mod FracLaws

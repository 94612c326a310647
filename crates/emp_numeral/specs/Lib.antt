-- What a caller relies on
pub mod Numeral
pub mod FracText
-- Laws
pub mod NumeralText

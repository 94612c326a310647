pub mod Printing
pub mod Numerals
pub mod Digits
pub mod Shifts
pub mod NumeralTexts

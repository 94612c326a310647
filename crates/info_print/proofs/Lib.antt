pub mod Flat
pub mod Printed
pub mod ReadAgain
pub mod Rows
pub mod Sound
pub mod Words

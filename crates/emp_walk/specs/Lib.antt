-- What a caller relies on
pub mod Fits
pub mod Decisions
pub mod Courses
pub mod Searches
pub mod Founds
-- What only helps proofs
pub mod Runs

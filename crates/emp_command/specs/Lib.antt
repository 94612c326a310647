-- What a caller relies on
pub mod Words
pub mod Lines
pub mod Course
pub mod Requests
pub mod Refusals
pub mod Deliveries

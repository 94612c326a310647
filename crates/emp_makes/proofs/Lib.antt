pub mod Adding
pub mod Files
pub mod Deciding
pub mod Summing
pub mod Ends
pub mod OneSummary
pub mod Places
pub mod OneMake

pub mod Outcomes
pub mod Working
pub mod Solved
pub mod Showing
pub mod Rooted
pub mod Searches
pub mod Rays

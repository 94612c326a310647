pub mod Enough
pub mod Opening
pub mod Walking
pub mod Listing

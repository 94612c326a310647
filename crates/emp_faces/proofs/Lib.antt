pub mod Settled
pub mod Showing
pub mod Examples

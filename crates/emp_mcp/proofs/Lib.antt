pub mod Flows
pub mod Blocks
pub mod Kept
pub mod Members
pub mod Places
pub mod Renaming
pub mod Targets
pub mod Unbroken

-- What a caller relies on
pub mod CallLog
pub mod Counts
pub mod Desk
pub mod Files
pub mod Memory
pub mod MemoryDesk
pub mod SteadyDesk

pub mod Cells
pub mod Passing
pub mod Files

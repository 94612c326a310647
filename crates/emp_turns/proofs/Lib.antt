pub mod Totals
pub mod Signs
pub mod Systems
pub mod Steps
pub mod Runs
pub mod Cycles
pub mod Kept
pub mod Counting
pub mod Laws
pub mod Layouts
pub mod Pivots
pub mod Loops
mod Worked
pub mod Chooser

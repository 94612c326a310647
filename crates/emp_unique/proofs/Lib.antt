pub mod Polynomials
pub mod Problems
pub mod Folds
pub mod Cells
pub mod Systems
pub mod States

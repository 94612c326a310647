-- What a caller relies on
pub mod Budgets
-- What only helps proofs
pub mod Runs

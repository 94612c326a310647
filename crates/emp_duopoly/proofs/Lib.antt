pub mod Balance
pub mod Firms
pub mod Profits
pub mod Amounts
pub mod Equations
pub mod Blocks
pub mod Equilibria

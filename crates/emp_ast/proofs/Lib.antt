pub mod Finding
pub mod Nodes
pub mod Trees
pub mod Fractions
pub mod SameValues
pub mod SameWords
pub mod Given
pub mod Defines

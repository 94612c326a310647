-- What a caller relies on
pub mod Grammar
pub mod Items
pub mod Lexemes
pub mod Nesting
pub mod Steps
pub mod Syntax
-- What only helps proofs
pub mod Machine

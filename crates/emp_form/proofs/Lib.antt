pub mod Lines
pub mod FormLaws
pub mod Running
pub mod Formulas
pub mod Vanishing
pub mod Steps
pub mod OneFault

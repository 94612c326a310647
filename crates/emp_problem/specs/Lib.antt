-- What a caller relies on
pub mod Left
pub mod GameOf
pub mod Problem
pub mod ProblemOf
pub mod Class

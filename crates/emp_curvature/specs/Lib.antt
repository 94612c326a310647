-- Laws
pub mod Curvature

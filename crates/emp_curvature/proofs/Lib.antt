pub mod Curvature

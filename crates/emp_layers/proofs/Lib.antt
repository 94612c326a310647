pub mod Scaling
pub mod Imaging
pub mod Ones
pub mod Files
pub mod Systems
pub mod Deciding
pub mod Wides
pub mod Backs

-- What a caller relies on
pub mod TextLines
pub mod ClassLines
pub mod CertLines
pub mod Report

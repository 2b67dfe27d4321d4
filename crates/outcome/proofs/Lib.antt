mod Knotting
pub mod Changed
pub mod Passed

pub mod Families
pub mod Pairs
pub mod Sets

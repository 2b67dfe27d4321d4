pub mod Finer
pub mod Showing

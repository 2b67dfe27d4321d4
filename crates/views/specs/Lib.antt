pub mod Views
pub mod Shown

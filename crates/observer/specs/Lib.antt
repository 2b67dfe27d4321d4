pub mod Marks
pub mod Words
pub mod Sweeps
pub mod Refusals
pub mod Entry

pub mod Sorts
pub mod Refusals
pub mod Held
pub mod Theorems

pub mod Foretelling
pub mod Calm
pub mod Theorems
pub mod Worked

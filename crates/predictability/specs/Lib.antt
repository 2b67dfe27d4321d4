pub mod States
pub mod Calmed
pub mod Search
pub mod Rows
pub mod Foresight

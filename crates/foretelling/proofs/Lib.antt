pub mod Lasting
pub mod Striking
pub mod Calm
pub mod Alarms
mod Decided

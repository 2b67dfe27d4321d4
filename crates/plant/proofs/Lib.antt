pub mod Limits
pub mod Threes
pub mod Valid
pub mod Readings
pub mod Runs
pub mod Known
pub mod Finer
pub mod States
pub mod Traces
pub mod Decided
pub mod Judged
pub mod Table
mod Worked

pub mod Labels
pub mod Refused
pub mod Answer
pub mod Trials

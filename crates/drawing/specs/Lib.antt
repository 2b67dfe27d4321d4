pub mod Added
pub mod Drafted
pub mod Drawn
pub mod Fine
pub mod Lines
pub mod Numbers
pub mod Reads

pub mod Fines
pub mod Newlines
pub mod Places
pub mod Reading
pub mod Rows

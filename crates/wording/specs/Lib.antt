pub mod Rows
pub mod Sentences
pub mod Troubles

pub mod Bytes
pub mod Lent
pub mod Rows
pub mod Trip

mod Lending
mod Laying
pub mod Rooms

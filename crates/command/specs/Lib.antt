pub mod Texts
pub mod Signs
pub mod Lines
pub mod Sizes

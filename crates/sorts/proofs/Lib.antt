pub mod Numbering
pub mod Cutting
pub mod Passing
mod Altogether
mod Looped
mod Looking
mod Rules

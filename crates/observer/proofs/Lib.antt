pub mod Leads
pub mod Passes
pub mod Told
pub mod Exact
pub mod Lent
pub mod Followed
pub mod Turned

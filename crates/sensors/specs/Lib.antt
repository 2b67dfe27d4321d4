pub mod Candidates
pub mod Choice
pub mod Sets
pub mod Signs

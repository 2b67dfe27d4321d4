pub mod Cuts
pub mod Lacking
pub mod Names
pub mod Numbers
pub mod Texts

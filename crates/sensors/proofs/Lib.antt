mod Naming
mod Fitting
mod Signing
mod Counting
mod Padding
mod Deciding
mod Choosing

mod Growing
mod Renumbering
mod Counting
mod Relabelling
mod Trying
mod Fitting

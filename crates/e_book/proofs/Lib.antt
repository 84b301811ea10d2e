pub mod parsers
pub mod grammar
pub mod fit_theorems
pub mod book_lines
pub mod canonical
mod Checks

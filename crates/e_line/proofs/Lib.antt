pub mod base
pub mod read_again
pub mod read_lines

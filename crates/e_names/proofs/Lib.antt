pub mod literals
pub mod read_lines
pub mod distinct_names
pub mod resolution
pub mod titles

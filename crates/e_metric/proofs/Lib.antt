pub mod rows
pub mod terms
pub mod sums
pub mod answers

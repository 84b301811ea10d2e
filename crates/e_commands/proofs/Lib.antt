pub mod progress
pub mod written_texts
pub mod outcomes
pub mod title_counts
pub mod answers

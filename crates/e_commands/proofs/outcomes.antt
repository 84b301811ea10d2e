-- The outcome of a book.
pub mod Completeness
pub mod OneOutcome
pub mod AcceptedBooks

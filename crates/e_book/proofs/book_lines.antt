-- The lines of a book, and their first fault.
pub mod FirstFault
pub mod LineCount

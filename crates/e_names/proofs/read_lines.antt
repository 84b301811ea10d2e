-- What is known of the lines that are read.
pub mod Building
pub mod Citations
pub mod InScope
pub mod ItemsWritten
pub mod NamedLiterals
pub mod LiteralsOfRawLines
pub mod Uses
pub mod WellRead

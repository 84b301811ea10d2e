-- A theorem is read from its canonical lines.
pub mod CanonicalItems
pub mod CanonicalRead
pub mod Declared
pub mod HeadRead
pub mod LineWords
pub mod LinesRead
pub mod OutWritten
pub mod PlainSteps
pub mod ScriptParts
pub mod ScriptRead

-- The lines of a proof and of its blocks.
pub mod SpelledSteps
pub mod SpelledBlocks
pub mod LinesOfProofs
pub mod LinesWithCertificates
pub mod LinesTaken
pub mod ScriptAlong
pub mod FilledBack

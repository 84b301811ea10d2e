-- What is left of a trimmed derivation has a spelling.
pub mod TrimmedLimits
pub mod TrimmedNames
pub mod TrimmedSpelling

-- Certificates with the places of facts, and derivations of them.
pub mod AlikeRows
pub mod AlikeSums
pub mod PlacedSums
pub mod PlacedCertificates
pub mod PairedPlaces
pub mod NumberedLines
pub mod NumberedSteps

-- Lines that are checked one after another, and blocks.
pub mod PairedCertificates
pub mod FormedInstances
pub mod FormedFacts
pub mod FirstLines
pub mod CertifiedLines
pub mod QedGoals
pub mod PassedLines
pub mod InnerBlocks
pub mod DerivationsOfStatements

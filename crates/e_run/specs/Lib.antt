pub mod Words
pub mod Proofs
pub mod Runs

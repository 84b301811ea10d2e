-- Words of private contracts and of proofs: nothing here is part of any claim.
pub mod Clashes
pub mod BlankChoices
pub mod Rows
pub mod Sweeps
pub mod Questions

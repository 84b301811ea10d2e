-- Words of private contracts and of proofs: nothing here is part of any claim.
pub mod BookResults
pub mod Progress
pub mod Finished
pub mod Handled
pub mod Suggesting
pub mod Rewriting

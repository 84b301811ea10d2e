-- Words of private contracts and of proofs: nothing here is part of any claim.
pub mod Strict
pub mod Needs
pub mod Machine

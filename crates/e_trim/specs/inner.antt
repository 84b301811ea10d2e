-- Words of private contracts and of proofs: nothing here is part of any claim.
pub mod Flags
pub mod StepState
pub mod Wanted
pub mod Building

-- Words of private contracts and of proofs: nothing here is part of any claim.
pub mod StopsOfSteps
pub mod NextStates
pub mod LicensedSteps
pub mod Applications
pub mod PassedSteps

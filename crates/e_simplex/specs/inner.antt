-- Words of private contracts and of proofs: nothing here is part of any claim.
pub mod Readings
pub mod Changed
pub mod Multiple
pub mod Further
pub mod Tried
pub mod Points
pub mod Disequalities
pub mod RowMultipliers
pub mod Paired
pub mod Weights

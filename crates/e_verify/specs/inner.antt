-- Words of private contracts and of proofs: nothing here is part of any claim.
pub mod Totals
pub mod Small
pub mod Views
pub mod RowScopes
pub mod Fingerprint
pub mod Alike

-- Words of private contracts and of proofs: nothing here is part of any claim.
pub mod Differences
pub mod Certificate
pub mod AssignedValues
pub mod FurtherRows
pub mod ByKind
pub mod TermTotals
pub mod PreparedSystem

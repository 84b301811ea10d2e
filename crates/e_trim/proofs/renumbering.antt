-- Terms, literals, instances and forms over the kept objects, by their new numbers.
pub mod AbsurdSums
pub mod Counting
pub mod FormsAt
pub mod FormsOfSteps
pub mod InstancesAt
pub mod LitsAt
pub mod Members
pub mod MovedLits
pub mod Pairs
pub mod RowsAt
pub mod SumsAgree
pub mod SuperposedAt
pub mod TermsAt

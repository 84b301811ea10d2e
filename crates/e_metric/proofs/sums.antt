-- Certificates, as sums of rows.
pub mod RefutingSums
pub mod SystemCertificates
pub mod Multipliers
pub mod RowNames
pub mod ScopeOfSums
pub mod WrittenSums
pub mod TermTotals
pub mod NamedMultipliers

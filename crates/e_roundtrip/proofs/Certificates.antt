-- The lines of certificates: what is owed, what is spelled and what is read.
pub mod RowsAgain
pub mod TransfersAgain
pub mod CertLinesRead
pub mod CertLinesAgain
pub mod CertLinesFormed
pub mod OwedSpelled
pub mod CertsPut
pub mod SpellableCertificates
pub mod DueAgain
pub mod Feeding
pub mod FormsOfOwedCertificates
pub mod VersionLines

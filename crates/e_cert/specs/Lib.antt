pub mod CertLines
pub mod CanonicalCertLines
pub mod Rows
pub mod Certificates
pub mod Owed

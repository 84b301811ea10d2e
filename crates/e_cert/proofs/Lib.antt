pub mod FormsOfCertificates
pub mod CertLineLits
pub mod FormsOfCertLines
pub mod Fronts
pub mod ComparedLines

-- What is certified is so after the kept steps alone.
pub mod ApplyStays
pub mod CertScopes
pub mod CertsStay
pub mod LinesStay
pub mod QedStays
pub mod Staying
pub mod SumsStay
pub mod TermsStay

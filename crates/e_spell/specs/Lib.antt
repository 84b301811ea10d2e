pub mod Certificates
pub mod Spelling
pub mod Laws
pub mod inner

pub mod Looked
pub mod Trimmed
pub mod Applied
pub mod Trimmable
pub mod Laws
pub mod inner

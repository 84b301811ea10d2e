pub mod Suggestions
pub mod Laws

pub mod Decided
pub mod FirstItem
pub mod TooWide

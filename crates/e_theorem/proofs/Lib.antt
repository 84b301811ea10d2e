pub mod Imaging
pub mod Patterns
pub mod Renaming
pub mod Uses
pub mod NotionImages

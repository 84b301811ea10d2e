pub mod Squares
pub mod Ring
pub mod Cone
pub mod Steps
pub mod Symbols

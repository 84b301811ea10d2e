pub mod Statements
pub mod Notions
pub mod Faults
pub mod Pattern
pub mod Choice
pub mod WideChoice

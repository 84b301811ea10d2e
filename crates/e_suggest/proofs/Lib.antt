pub mod Blanks
pub mod FirstOfChoices

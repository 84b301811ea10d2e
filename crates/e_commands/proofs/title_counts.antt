-- How many lines of a book are titles, and the titles of its theorems.
pub mod GeneratedTitles
pub mod Titles
pub mod UsedTitles

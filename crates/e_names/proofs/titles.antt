-- Titles of theorems and of notions.
pub mod FreshTitles
pub mod NotionsBeside
pub mod SideBySide

-- Words with the names of objects in scope are read as what they were made of.
pub mod Applied
pub mod Arguments
pub mod Built
pub mod Cited
pub mod Entries
pub mod LitLookups
pub mod Lookups
pub mod RuleNames
pub mod Superposed

-- Names that differ, and the order of names in scope.
pub mod Differ
pub mod Distinct
pub mod OrderedNames
pub mod NewNames

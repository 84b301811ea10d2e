-- Literals that are the same, and those that are found different at once.
pub mod Fingerprints
pub mod ReversedLists
pub mod WrittenAlike

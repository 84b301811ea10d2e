-- One pivot: its place, the entries after it, and the table, which stays sound.
pub mod Choosing
pub mod PlacesInTables
pub mod Pivoting
pub mod SoundPivots
pub mod Exchanging

-- How many bytes lines take: those of a spelling are short.
pub mod Rooms
pub mod LitRooms
pub mod RuleRooms
pub mod CertRooms
pub mod RawLineRooms
pub mod HeadRooms
pub mod ScriptRooms
pub mod BlockRooms

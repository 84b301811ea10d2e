-- A book while its bytes and its lines come.
pub mod History
pub mod ReadPieces
pub mod TakenBooks
pub mod TakenBytes

-- Whole texts: read, spelled, written and verified.
pub mod ShownText
pub mod Assembly
pub mod LastLine
pub mod ReadIsSpelled
pub mod SpelledIsRead
pub mod WrittenIsVerified
pub mod VerifiedTexts
pub mod OneTree
pub mod GarbledTexts

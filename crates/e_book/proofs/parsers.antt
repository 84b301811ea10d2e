-- What is known of a parser while its lines come, and of what is read.
pub mod Answered
pub mod PartialInvariants
pub mod ItemsRead
pub mod ParserInvariants
pub mod KeptBlocks
pub mod KeptSums
pub mod OpenBlocks
pub mod ParserFits
pub mod ReadingOn
pub mod SameTitle

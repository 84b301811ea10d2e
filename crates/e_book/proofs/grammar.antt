-- The parser makes of each line what the grammar says.
pub mod BlockBegins
pub mod BlockCounts
pub mod BlockEnds
pub mod BlockLines
pub mod PartialTied
pub mod Copies
pub mod GrammarRead
pub mod Interrupted
pub mod LimitTests
pub mod ParserState
pub mod StatementLines

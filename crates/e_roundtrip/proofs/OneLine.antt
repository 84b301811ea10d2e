-- One line: its names and its objects, both ways.
pub mod NamesSpelled
pub mod LitsRead
pub mod LitsSpelled
pub mod LinePieces
pub mod RawLinesRead
pub mod RulesSpelled
pub mod RawLinesSpelled
pub mod Groups

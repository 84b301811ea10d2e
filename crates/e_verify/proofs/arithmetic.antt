-- Sums of rows, term by term.
pub mod StepTerms
pub mod TermKeys
pub mod KeyedTotals
pub mod SmallSums
pub mod Coefficients
pub mod AddedRows

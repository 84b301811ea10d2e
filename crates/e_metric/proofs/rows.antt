-- The rows of metric systems.
pub mod Forms
pub mod SystemRows
pub mod SameCoefficients
pub mod RowOrder
pub mod SystemBounds
pub mod GoalRows
pub mod RowsOfMoreFacts

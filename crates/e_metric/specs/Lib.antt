pub mod AgreeingRows
pub mod ListedTerms
pub mod MetricAnswers
pub mod RowOrder
pub mod SolvedSystems
pub mod Fronts
pub mod inner

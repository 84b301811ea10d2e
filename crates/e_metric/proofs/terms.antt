-- Lists of terms.
pub mod FirstTerms
pub mod TermOrder
pub mod StepTerms
pub mod WellFormedSums

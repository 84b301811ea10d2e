pub mod Checking
pub mod StepStates
pub mod Verdicts
pub mod inner

-- What is read can be judged, and has a spelling.
pub mod Fitting
pub mod FittingScripts
pub mod ConditionsOfSteps
pub mod ReadSpelled
pub mod Renaming
pub mod WrittenScripts

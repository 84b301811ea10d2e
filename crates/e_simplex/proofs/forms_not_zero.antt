-- Values at which no form of a list is 0.
pub mod Disequal
pub mod Multiples
pub mod Combining
pub mod PointSteps
pub mod NextPoints

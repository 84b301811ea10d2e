-- Values that satisfy rows, and multipliers that refute them.
pub mod Assigning
pub mod RowMultipliers
pub mod Refuting
pub mod Refutes

pub mod termination
pub mod outcomes
pub mod pivots
pub mod columns
pub mod forms_not_zero
pub mod joined_rows
pub mod verdicts

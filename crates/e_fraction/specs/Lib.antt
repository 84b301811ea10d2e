pub mod Det
pub mod Tableau
pub mod Quotients
pub mod Distinct
pub mod Limits
pub mod Views

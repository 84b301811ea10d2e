-- Rows over terms as constraints over columns.
pub mod Forms
pub mod Negatives
pub mod Places
pub mod NamedConstraints
pub mod SpareColumns
pub mod WideRows

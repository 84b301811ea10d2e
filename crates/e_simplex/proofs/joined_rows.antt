-- One row more in a table, and further constraints beside a solved one.
pub mod Joining
pub mod FurtherRows
pub mod Tables
pub mod Extending

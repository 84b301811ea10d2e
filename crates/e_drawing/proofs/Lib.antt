pub mod PlanLines
pub mod Named
pub mod Drawn
pub mod Citing
pub mod FirstFault
pub mod spelled
mod Checks

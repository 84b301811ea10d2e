-- The rule ends: no basis comes twice, and the pivots that are left can be counted.
pub mod Clash
pub mod Runs
pub mod Measure

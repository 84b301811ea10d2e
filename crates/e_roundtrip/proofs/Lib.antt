pub mod Lengths
pub mod OneLine
pub mod Certificates
pub mod Heads
pub mod Blocks
pub mod Formed
pub mod Texts
pub mod Trimmed
mod Checks

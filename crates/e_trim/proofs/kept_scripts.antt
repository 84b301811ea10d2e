-- The script of the kept steps, as it is built.
pub mod BuiltSteps
pub mod KeptSteps
pub mod Shorter
pub mod Starting
pub mod StepParts
pub mod StepSizes
pub mod TrimmedScripts
pub mod CertifiedDerivations
pub mod VersionStays

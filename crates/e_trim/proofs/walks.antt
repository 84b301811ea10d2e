-- What the walk from the close backwards finds: what is wanted, and which steps are kept.
pub mod BlockLooking
pub mod Both
pub mod FirstSteps
pub mod LookedUp
pub mod Places
pub mod StepForms
pub mod StepLooking

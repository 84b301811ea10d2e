pub mod Contexts
pub mod HeldStates
pub mod Licences
pub mod Verdicts
pub mod FilledBlanks
pub mod ChoicesInOrder
pub mod inner

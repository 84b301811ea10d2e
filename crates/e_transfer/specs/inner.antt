-- Words of private contracts and of proofs: nothing here is part of any claim.
pub mod Equations
pub mod Matches
pub mod Bindings
pub mod PartsOfChoices
pub mod Plans
pub mod SearchedPlaces
pub mod Angles
pub mod BoundFacts
pub mod ClauseMarks
pub mod Candidates
pub mod ListedTerms
pub mod Alike

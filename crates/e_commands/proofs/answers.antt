-- What is written with an answer, and which answer an input can have.
pub mod DrawerAnswers
pub mod Finished
pub mod MadeBooks
pub mod OneSuggestion
pub mod SuggestedLines
pub mod SuggesterAnswers
pub mod Trials
pub mod VerifierAnswers
pub mod Wrote

-- The words that spell a form are read as that form.
pub mod AppliesAgain
pub mod LetsAgain
pub mod LitsAgain
pub mod NamesAgain
pub mod Pieces
pub mod Placed
pub mod Respelled
pub mod Spaced
pub mod SumsAgain
pub mod SuperposesAgain
pub mod Texts

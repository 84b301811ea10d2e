-- The derivation texts that are written.
pub mod LastLinesWritten
pub mod RewrittenTexts
pub mod TrimmedTexts
pub mod UpgradedTexts
pub mod VerifiedAgain
pub mod VerifiedText

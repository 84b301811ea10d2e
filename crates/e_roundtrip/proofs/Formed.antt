-- What a derivation is that lines can spell: its form, its blanks filled, its names.
pub mod PlacedScripts
pub mod CertifiedFormed
pub mod FormedLines
pub mod Filled
pub mod FilledForms
pub mod FilledSpelling

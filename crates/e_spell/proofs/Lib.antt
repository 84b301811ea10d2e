pub mod Applied
pub mod Declared
pub mod CertTexts
pub mod ScriptTexts
pub mod PartsOfSpelling
pub mod StopTexts
pub mod CertLines
pub mod Plain

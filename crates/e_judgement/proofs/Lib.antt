pub mod Passing
pub mod OneJudgement
mod EachText
pub mod WithCertificates
pub mod Verifiable

-- Answers of systems, and what is solved of facts.
pub mod KindAnswers
pub mod JoinedAnswers
pub mod CertificatesOfFronts
pub mod SolvedSystems
pub mod GrownSystems
pub mod OtherKinds
pub mod EachKind
pub mod Fronts
pub mod Consequences

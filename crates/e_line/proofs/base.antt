-- Results that go on, and loops: what the other lemmas stand on.
pub mod Bound
pub mod Choices
pub mod Cited
pub mod ItemLoops
pub mod Loops
pub mod Past

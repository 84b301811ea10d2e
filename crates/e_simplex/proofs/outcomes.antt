-- What the table at the end of a run says of its constraints.
pub mod Answers
pub mod Concluding
pub mod Deciding
pub mod Reading
pub mod Spreading
pub mod Further
pub mod Solving
pub mod Copying

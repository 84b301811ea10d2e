-- The lines of a theorem before its proof.
pub mod SpelledHeads
pub mod HeadTaken
pub mod HeadAlong
pub mod ItemsAdded

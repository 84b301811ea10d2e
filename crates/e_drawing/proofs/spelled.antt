pub mod NumbersAgain
pub mod LinesAgain
pub mod ShortLines
pub mod ObjectsAgain
pub mod PlansAgain
pub mod TextsAgain

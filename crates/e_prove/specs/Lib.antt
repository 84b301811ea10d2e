pub mod Stops
pub mod StatesBefore
pub mod Laws
pub mod inner

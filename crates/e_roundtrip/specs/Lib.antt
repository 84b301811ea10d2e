pub mod Formed
pub mod Spelled
pub mod Written
pub mod Laws

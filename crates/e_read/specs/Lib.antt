pub mod Owing
pub mod Filled
pub mod Text
pub mod Laws
pub mod inner

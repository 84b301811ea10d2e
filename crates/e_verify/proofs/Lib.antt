pub mod arithmetic
pub mod comparing
pub mod checking

-- Literals as they are spelled: their sums and their limits.
pub mod Diagrams
pub mod FewSums
pub mod ComparedSums
pub mod NamesPut
pub mod PlainLits
pub mod ShortLits

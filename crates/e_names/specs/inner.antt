-- Words of contracts inside the program and of proofs: nothing here is part of any claim.
pub mod Written

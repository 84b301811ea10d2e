-- Words of private contracts and of proofs: nothing here is part of any claim.
pub mod Fingerprint
pub mod Key

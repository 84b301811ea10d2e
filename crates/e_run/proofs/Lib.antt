pub mod SpelledProofs

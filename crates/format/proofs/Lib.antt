-- What holds of every format and label, for the proofs of several functions here and in the crates above.
pub mod Labels

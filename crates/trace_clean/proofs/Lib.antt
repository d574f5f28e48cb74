-- For this crate's own proofs: the walk of the steps.
mod Cleaning

-- For this crate's own proofs: the ways out of the calls.
mod Outcomes

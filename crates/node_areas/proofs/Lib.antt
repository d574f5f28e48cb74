-- For this crate's own proofs: the end of a block in the lent areas.
mod Rest

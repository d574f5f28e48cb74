-- For this crate's own proofs: what the tests said of a step, as the sample loops ask for it.
mod Fits

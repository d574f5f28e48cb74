-- For this crate's own proofs.

-- what the tests said of a step, as the functions of its kind ask for it
mod Fits
-- what holds between two steps
mod Going

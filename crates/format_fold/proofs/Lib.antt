-- What belongs to no one function: `Ranks`, the fold's own equation and the rank that falls; `Rows`, a turn of each loop over the matrix; `Ranges`,
-- the range of a gain by its bits; `Answers`, which test of `width_matrix` answers; `Examples`, worked examples; `Bs775`, the four folds beside the
-- standard.
pub mod Ranks
pub mod Rows
pub mod Ranges
pub mod Answers
pub mod Examples
pub mod Bs775

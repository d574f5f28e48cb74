-- Laws that belong to no one function, for the crates above too.

-- `sampled`, and stores of what is sampled
pub mod Stored
-- one buffer that is written: its samples, the others, and writes that change nothing
pub mod Put
-- the loops over the samples of a piece, and a piece through a local
pub mod Mixed
-- the last samples one by one, and pieces that make a buffer, or two
pub mod Pieces
-- a row of a Matrix, by columns and by samples
pub mod Rows
-- a turn of each loop over a list of buffers
pub mod Turns
-- what is taken for granted of buffers, handed on
pub mod Given
-- what each definition keeps, the gains of a node, and what an Output holds
pub mod Laws
-- document 01's cases 4 to 6
pub mod Examples

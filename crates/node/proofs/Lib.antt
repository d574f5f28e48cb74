-- Laws that belong to no one function, for the crates above too.

-- whole numbers that an f32 holds
pub mod Casts
-- a turn of each loop over a node
pub mod Loops
-- full rows, and the id, the len and the safe after each call
pub mod Kept
-- the samples left after each call, and a node at rest
pub mod Left
-- the nodes of the lent areas, before and after a store
pub mod Areas
-- the test of number 14
pub mod Bad
-- document 01's cases 1 to 3
pub mod Examples

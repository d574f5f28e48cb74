-- What the crate's contracts cite: the pairs that a table covers, the table with its tests, what an accepted table is, and the fold with a table.
pub mod Covered
pub mod Tables
pub mod Sound
pub mod With
pub mod Loops

-- What the functions of the walk, and of the calls above it, go by.
pub mod Loops

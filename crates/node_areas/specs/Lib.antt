-- What the contracts of the private functions cite.
pub mod Loops

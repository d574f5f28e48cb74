-- What the functions below the call cite.
pub mod Loops
pub mod Own

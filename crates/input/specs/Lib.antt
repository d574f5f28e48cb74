-- What the crate's contracts cite: the directory, the channel lookup and number 12. `Loops` has what the lookup of a run goes by.
pub mod Input
pub mod Loops

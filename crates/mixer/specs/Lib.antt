-- What the crate's contracts cite: the channel lookup with a lent area.
pub mod Lookup

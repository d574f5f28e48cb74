-- What the crate's contracts cite: the members of a set.
pub mod Sets

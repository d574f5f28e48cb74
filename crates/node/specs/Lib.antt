-- What the crate's contracts cite: the sizes, a node and its gains, and the nodes of the lent areas.
pub mod Sizes
pub mod Nodes
pub mod Areas
pub mod Rows

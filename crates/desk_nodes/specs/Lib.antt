-- What the contracts speak of: the nodes of two plans.
pub mod Nodes

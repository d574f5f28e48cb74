-- laws of the digests of nodes
pub mod Laws

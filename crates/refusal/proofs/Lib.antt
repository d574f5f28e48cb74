-- The laws of the ordered tests, which the crates above cite.
pub mod Laws
